use Rattle.wrong_bodies.proofs.Blocks.{a_pass_is_no_group}
use Rattle.wrong_bodies.proofs.groups.passes_a_group_as_a_call.Goals as goal

pub returns : goal.returns
returns g c = record { wrong = λ h. a_pass_is_no_group _ _ _ _ _ _ _ _ _ c.in_ok-receipt.ensures.ok h }
