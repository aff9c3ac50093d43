use Rattle.std.proofs.Common.{◌++◌, codes, ap, arith, rules}
use Rattle.ring_state.specs.Sizes.{Size}
use Rattle.text_lines.specs.Spelling.{list_text}
use Rattle.text_lines.proofs.Writing.{writes_then, writes_err}
use Rattle.ring_text.proofs.farm_report.put_states_line.Goals as goal

pub returns-in-Ok : goal.returns-in-Ok
returns-in-Ok g c =
    let list = c.in-Ok.ensures c.args.state.now.values (record { many = omega (arith, ap (λ (s : Size). s.n) c.params.ensures.is, c.n-n.ensures.is); each = λ i answer lt said. search rules }) in
    writes_then _ _ _ _ (codes "states " ++ list_text c.args.state.now.values) (codes "\n") list c.put.ensures

pub returns-in-Err : goal.returns-in-Err
returns-in-Err g c =
    let list = c.in-Err.ensures c.args.state.now.values (record { many = omega (arith, ap (λ (s : Size). s.n) c.params.ensures.is, c.n-n.ensures.is); each = λ i answer lt said. search rules }) in
    writes_err _ _ c.in-Err.fault (codes "states " ++ list_text c.args.state.now.values) (codes "\n") list
