use Rattle.name_service.proofs.NamedJournals.{named_locks_come_back}
use Rattle.name_service.proofs.laws.named_locks_come_back.Goals as goal

pub returns : goal.returns
returns c = named_locks_come_back
