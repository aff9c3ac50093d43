use Rattle.name_service.proofs.RightBegin.{begun_names_are_right, restored_names_are_right, right_names_stay, right_names_continue, right_names_grow}
use Rattle.name_service.proofs.laws.right_names_stay.Goals as goal

pub returns : goal.returns
returns c = record { begun = begun_names_are_right; restored = restored_names_are_right; stay = right_names_stay; next = right_names_continue; grow = right_names_grow }
