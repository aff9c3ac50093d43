use Rattle.wrong_bodies.proofs.Blocks.{pieces_are_no_group}
use Rattle.wrong_bodies.proofs.groups.passes_a_group_in_pieces.Goals as goal

pub returns : goal.returns
returns g c =
    record { wrong = λ h. pieces_are_no_group _ _ _ _ _ _ _ _ _ _ _ _ c.in_ok-receipt.ensures.ok c.in_ok-pass_group.ensures.ok h c.requires.several }
