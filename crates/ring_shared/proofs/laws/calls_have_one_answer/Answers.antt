use Rattle.ring_shared.proofs.OneAnswer.{calls_are_told_alike, calls_have_one_outcome}
use Rattle.ring_shared.proofs.laws.calls_have_one_answer.Goals as goal

pub returns : goal.returns
returns g c = record { told = calls_are_told_alike; under_lock = calls_have_one_outcome }
