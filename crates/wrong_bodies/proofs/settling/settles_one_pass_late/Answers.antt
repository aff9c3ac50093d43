use Rattle.wrong_bodies.proofs.Repairs.{repairs_end}
use Rattle.wrong_bodies.proofs.settling.settles_one_pass_late.Goals as goal

pub returns : goal.returns
returns g c =
    record { wrong = λ p h. repairs_end _ _ _ _ _ _ _ _ p c.in_ok-passes.ensures.repairs.1 c.in_ok-pass.ensures.ok h c.in_ok-passes.ensures.ok }
