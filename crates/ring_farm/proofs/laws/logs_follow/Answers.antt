use Rattle.ring_farm.proofs.OneOutcome.{logs_follow}
use Rattle.ring_farm.proofs.laws.logs_follow.Goals as goal

pub returns : goal.returns
returns c = logs_follow
