use Rattle.std.proofs.Common.{arith}
use Rattle.wrong_bodies.proofs.Blocks.{group_tells_the_length}
use Rattle.wrong_bodies.proofs.groups.leaves_members_out.Goals as goal

pub returns : goal.returns
returns g c = record { wrong = λ h. let same = group_tells_the_length _ _ _ _ _ _ _ _ _ h c.in_ok-receipt.ensures.ok in omega arith }
