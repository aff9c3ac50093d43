use Rattle.name_service.proofs.FixedNames.{fixed_names_are_locks}
use Rattle.name_service.proofs.laws.fixed_names_are_locks.Goals as goal

pub returns : goal.returns
returns c = fixed_names_are_locks
