use Rattle.std.specs.Prelude.{codes}
use Rattle.text_lines.specs.Spelling.{row}
use Rattle.text_lines.proofs.Writing.{writes_err}
use Rattle.saved_history.proofs.put_lines.put_start_line.Goals as goal

pub returns-in-Err-clause-written : goal.returns-in-Err-clause-written
returns-in-Err-clause-written g c = writes_err _ _ c.in-Err.fault (codes "start ") (row c.args.values.now) c.in-Err.ensures
