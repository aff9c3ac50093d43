use Rattle.ring_shared.proofs.OneAnswer.{groups_are_told_alike, groups_have_one_outcome}
use Rattle.ring_shared.proofs.laws.groups_have_one_answer.Goals as goal

pub returns : goal.returns
returns g c = record { told = groups_are_told_alike; under_lock = groups_have_one_outcome }
