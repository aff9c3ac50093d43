use Rattle.std.proofs.Common.{inr}
use Rattle.tool_parts.proofs.reading.read_file.Goals as goal

pub returns-clause-err : goal.returns-clause-err
returns-clause-err g c = inr (_, _, c.in-Ok.ensures, c.in-Err.ensures.err)
