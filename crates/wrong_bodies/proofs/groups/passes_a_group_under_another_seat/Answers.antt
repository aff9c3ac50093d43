use Rattle.wrong_bodies.proofs.Blocks.{group_tells_the_seat}
use Rattle.wrong_bodies.proofs.groups.passes_a_group_under_another_seat.Goals as goal

pub returns : goal.returns
returns g c = record { wrong = λ h. c.requires.apart (group_tells_the_seat _ _ _ _ _ _ _ _ _ h c.in_ok-receipt.ensures.ok) }
