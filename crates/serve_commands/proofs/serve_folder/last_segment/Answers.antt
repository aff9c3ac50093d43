use Rattle.std.proofs.Common.{refl, inr}
use Rattle.serve_commands.proofs.serve_folder.last_segment.Goals as goal

pub returns-else-last-number-clause-err : goal.returns-else-last-number-clause-err
returns-else-last-number-clause-err c = (refl, refl, inr (refl, (c.in-Ok.last, c.in-Ok.ensures.right, c.if-last-number.false)))
