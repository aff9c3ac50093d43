use Rattle.name_service.proofs.NamedReplicas.{locks_of_named_replicas, names_of_replicas}
use Rattle.name_service.proofs.laws.locks_of_named_replicas_come_back.Goals as goal

pub returns : goal.returns
returns c = record { locks = locks_of_named_replicas; names = names_of_replicas }
