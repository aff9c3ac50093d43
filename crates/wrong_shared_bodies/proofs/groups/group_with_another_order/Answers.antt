use Rattle.wrong_shared_bodies.proofs.Blocks.{order_told}
use Rattle.wrong_shared_bodies.proofs.groups.group_with_another_order.Goals as goal

pub returns : goal.returns
returns g c = record { wrong = λ p. c.requires.apart (order_told _ _ _ _ _ _ _ c.in_ok-receipt.ensures.told p) }
