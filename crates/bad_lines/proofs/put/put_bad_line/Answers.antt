use Rattle.std.proofs.Common.{◌++◌, codes}
use Rattle.text_lines.proofs.Writing.{writes_then, writes_err}
use Rattle.bad_lines.specs.BadLineTexts.{head_text, wrong_text}
use Rattle.bad_lines.proofs.put.put_bad_line.Goals as goal

pub returns-in-Ok : goal.returns-in-Ok
returns-in-Ok g c = writes_then _ _ _ _ (head_text c.args.bad.now.line c.args.bad.now.bad.kind) (wrong_text c.args.bad.now.bad.wrong ++ codes "\n") c.in-Ok.ensures c.put_end.ensures

pub returns-in-Err : goal.returns-in-Err
returns-in-Err g c = writes_err _ _ c.in-Err.fault (head_text c.args.bad.now.line c.args.bad.now.bad.kind) (wrong_text c.args.bad.now.bad.wrong ++ codes "\n") c.in-Err.ensures
