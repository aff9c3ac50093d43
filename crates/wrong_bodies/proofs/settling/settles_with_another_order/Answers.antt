use Rattle.wrong_bodies.proofs.Repairs.{repairs_tell_the_order}
use Rattle.wrong_bodies.proofs.settling.settles_with_another_order.Goals as goal

pub returns : goal.returns
returns g c =
    record { wrong = λ p h. c.requires.apart (repairs_tell_the_order _ _ _ _ _ _ _ _ _ p c.in_ok-pass.ensures.ok c.in_ok-passes.ensures.repairs.1 h) }
