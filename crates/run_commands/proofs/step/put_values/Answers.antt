use Rattle.std.proofs.Common.{ap, arith, rules}
use Rattle.ring_state.specs.Sizes.{Size}
use Rattle.run_commands.proofs.step.put_values.Goals as goal

pub returns : goal.returns
returns g c =
    c.put_list.ensures c.args.state.now.values (record { many = omega (arith, ap (λ (s : Size). s.n) c.params.ensures.is, c.n-n.ensures.is); each = λ i answer lt said. search rules })
