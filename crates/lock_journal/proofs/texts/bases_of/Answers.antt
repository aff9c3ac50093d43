use Rattle.std.proofs.Common.{◌<◌, length, rules}
use Rattle.lock_journal.proofs.Places.{base_more}
use Rattle.lock_journal.proofs.texts.bases_of.Goals as goal

pub loop-lock-preserved : goal.loop-lock-preserved
loop-lock-preserved c =
    let below : c.loop-lock.lock < length c.args.locks.now = search rules in
    base_more c.args.locks.now c.loop-lock.lock c.ring.result.now c.base.result.now c.loop-lock.bases.items c.push.new.self.items below c.ring.ensures c.base.ensures.is c.loop-lock.invariant c.in_ok-push.ensures.items
