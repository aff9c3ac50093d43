use Rattle.std.proofs.Common.{refl}
use Rattle.folder_of_locks.specs.Pools.{pooled}
use Rattle.folder_of_locks.proofs.PoolWords.{named_pool}
use Rattle.folder_of_locks.proofs.pool_finding.word_has_pool.Goals as goal

pub returns-in-Ok-clause-ok : goal.returns-in-Ok-clause-ok
returns-in-Ok-clause-ok c = named_pool _ c.in-Some.word.now (pooled c.in-Ok.list) _ (rw c.in-Some.is refl) c.in-Ok.ensures.ok c.is_some.ensures

pub returns-in-Err-clause-err : goal.returns-in-Err-clause-err
returns-in-Err-clause-err c = (c.in-Some.word.now, rw c.in-Some.is refl, c.in-Err.ensures.err)
