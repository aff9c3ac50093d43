use Rattle.lock_service.proofs.WithoutRemarks.{locks_of_replicas}
use Rattle.lock_service.proofs.laws.locks_of_replicas_come_back.Goals as goal

pub returns : goal.returns
returns c = locks_of_replicas
