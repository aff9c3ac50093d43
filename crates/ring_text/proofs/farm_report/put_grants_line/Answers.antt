use Rattle.std.proofs.Common.{◌++◌, codes, rules}
use Rattle.text_lines.specs.Spelling.{list_text}
use Rattle.text_lines.proofs.Writing.{writes_then, writes_err}
use Rattle.ring_text.proofs.farm_report.put_grants_line.Goals as goal

pub returns-in-Ok : goal.returns-in-Ok
returns-in-Ok g c =
    let list = c.in-Ok.ensures c.args.grants.now.each (record { many = c.requires.each; each = λ i answer lt said. search rules }) in
    writes_then _ _ _ _ (codes "grants " ++ list_text c.args.grants.now.each) (codes " settled " ++ (list_text c.args.grants.now.settled ++ codes "\n")) list c.put_settled_grants.ensures

pub returns-in-Err : goal.returns-in-Err
returns-in-Err g c =
    let list = c.in-Err.ensures c.args.grants.now.each (record { many = c.requires.each; each = λ i answer lt said. search rules }) in
    writes_err _ _ c.in-Err.fault (codes "grants " ++ list_text c.args.grants.now.each) (codes " settled " ++ (list_text c.args.grants.now.settled ++ codes "\n")) list
