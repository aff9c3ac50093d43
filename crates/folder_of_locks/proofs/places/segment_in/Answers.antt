use Rattle.std.proofs.Common.{refl, inr}
use Rattle.folder_of_locks.proofs.places.segment_in.Goals as goal

pub returns-else-last-number-clause-err : goal.returns-else-last-number-clause-err
returns-else-last-number-clause-err c = (refl, inr (refl, (c.in-Ok.last, c.in-Ok.ensures.right, c.if-last-number.false)))
