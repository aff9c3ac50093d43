use Rattle.std.proofs.Common.{ap, arith, rules}
use Rattle.ring_state.specs.Sizes.{Size}
use Rattle.text_lines.proofs.Writing.{writes_same}
use Rattle.text_lines.proofs.NumbersText.{row_is}
use Rattle.one_thread_ring.proofs.blocks.put_values.Goals as goal

pub returns : goal.returns
returns g c =
    let row = c.put_numbers.ensures.text c.args.state.now.values (record { many = omega (arith, ap (λ (s : Size). s.n) c.params.ensures.is, c.n-n.ensures.is); each = λ i answer lt said. search rules }) in
    writes_same _ _ c.put_numbers.result _ _ (row_is c.args.state.now.values) row
