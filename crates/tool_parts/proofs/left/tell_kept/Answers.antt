use Rattle.text_lines.proofs.Writing.{writes_err}
use Rattle.tool_parts.specs.CheckText.{legal_line}
use Rattle.tool_parts.specs.Kept.{left_line}
use Rattle.tool_parts.proofs.left.tell_kept.Goals as goal

pub returns-in-Err : goal.returns-in-Err
returns-in-Err g c = writes_err _ _ c.in-Err.fault (legal_line c.args.sums.now) (left_line c.args.left.now.bytes c.args.left.now.bad) c.in-Err.ensures
