use Rattle.std.proofs.Common.{◌++◌}
use Rattle.chain_readers.specs.Labels.{chosen_of}
use Rattle.chain_readers.proofs.HoldCounting.{lock_chosen}
use Rattle.chain_readers.proofs.labels.count_labels.Goals as goal

pub loop-lock-preserved : goal.loop-lock-preserved
loop-lock-preserved c =
    let l = c.loop-lock in
    let i = l.invariant in (
      i.0 ++ chosen_of c.args.choice l.lock c.deref.result.now,
      c.in_ok-count_lock.ensures i.0 i.1,
      lock_chosen c.args.choice c.args.locks.now l.lock c.index-locks-lock.result c.deref.result.now i.0 _ c.loop-lock-test.true c.index-locks-lock.is c.deref.ensures.value i.2,
    )
