use Rattle.wrong_bodies.proofs.Blocks.{group_tells_the_order}
use Rattle.wrong_bodies.proofs.groups.passes_a_group_with_another_order.Goals as goal

pub returns : goal.returns
returns g c = record { wrong = λ h. c.requires.apart (group_tells_the_order _ _ _ _ _ _ _ _ _ h c.in_ok-receipt.ensures.ok) }
