use Rattle.std.proofs.Common.{◌<◌, length, rules}
use Rattle.lock_journal.proofs.Counts.{ring_more}
use Rattle.lock_journal.proofs.counting.after_start.Goals as goal

pub loop-lock-preserved : goal.loop-lock-preserved
loop-lock-preserved c =
    let below : c.loop-lock.lock < length c.args.locks.now = search rules in
    ring_more c.args.locks.now c.loop-lock.lock c.args.remaining c.loop-lock.more c.after_ring-more.result c.ring.result.now below c.ring.ensures c.loop-lock.invariant c.after_ring-more.ensures
