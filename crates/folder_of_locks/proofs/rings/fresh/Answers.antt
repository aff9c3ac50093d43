use Rattle.folder_of_locks.specs.Lists.{listed}
use Rattle.folder_of_locks.proofs.rings.fresh.Goals as goal

pub returns-in-Ok-clause-ok : goal.returns-in-Ok-clause-ok
returns-in-Ok-clause-ok c = c.in-Ok.ensures.ok (listed c.args.lock.now).name
