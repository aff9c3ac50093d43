use Rattle.name_service.proofs.NamedRuns.{nothing_told_of_replicas}
use Rattle.name_service.proofs.laws.nothing_told_of_replicas_is_lost.Goals as goal

pub returns : goal.returns
returns c = nothing_told_of_replicas
