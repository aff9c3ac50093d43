use Rattle.lock_names.proofs.Beginning.{own_begin}
use Rattle.lock_names.proofs.Owning.{names_are_locks}
use Rattle.lock_names.proofs.laws.names_are_locks.Goals as goal

pub returns-clause-begin : goal.returns-clause-begin
returns-clause-begin c = own_begin

pub returns-clause-alike : goal.returns-clause-alike
returns-clause-alike c = names_are_locks
