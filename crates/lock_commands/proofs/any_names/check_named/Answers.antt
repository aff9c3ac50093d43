use Rattle.folder_of_locks.specs.Pools.{pooled}
use Rattle.lock_commands.proofs.any_names.check_named.Goals as goal

pub returns-clause-ok : goal.returns-clause-ok
returns-clause-ok c = rw c.in-Some.is (pooled c.in-Ok.list, c.in-Ok.ensures.ok)
