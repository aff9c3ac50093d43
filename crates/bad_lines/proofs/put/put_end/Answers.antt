use Rattle.std.proofs.Common.{◌++◌, codes}
use Rattle.text_lines.proofs.Writing.{writes_then, writes_err}
use Rattle.bad_lines.specs.BadLineTexts.{wrong_text}
use Rattle.bad_lines.proofs.put.put_end.Goals as goal

pub returns-in-Ok : goal.returns-in-Ok
returns-in-Ok g c = writes_then _ _ _ _ (wrong_text c.args.wrong.now) (codes "\n") c.in-Ok.ensures c.put.ensures

pub returns-in-Err : goal.returns-in-Err
returns-in-Err g c = writes_err _ _ c.in-Err.fault (wrong_text c.args.wrong.now) (codes "\n") c.in-Err.ensures
