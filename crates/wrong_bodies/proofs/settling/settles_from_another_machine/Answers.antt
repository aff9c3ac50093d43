use Rattle.wrong_bodies.proofs.Repairs.{repairs_tell_the_first}
use Rattle.wrong_bodies.proofs.settling.settles_from_another_machine.Goals as goal

pub returns : goal.returns
returns g c =
    record { wrong = λ p h. c.requires.apart (repairs_tell_the_first _ _ _ _ _ _ _ _ _ p c.in_ok-pass.ensures.ok c.in_ok-passes.ensures.repairs.1 h) }
