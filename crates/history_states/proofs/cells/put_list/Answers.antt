use Rattle.std.proofs.Common.{refl, rules}
use Rattle.history_states.proofs.cells.put_list.Goals as goal

pub returns : goal.returns
returns g c = rw (← c.between.ensures, ← c.closing.ensures) (c.put_numbers.ensures.text c.args.numbers.now (record { many = refl; each = λ i answer lt said. search rules }))
