use Rattle.std.proofs.Common.{◌<◌, length, sym, ◌∙◌, rules}
use Rattle.lock_journal.proofs.Counts.{short_more, short_there}
use Rattle.lock_journal.proofs.due.has_short.Goals as goal

pub returns-then-is_short : goal.returns-then-is_short
returns-then-is_short c = sym (short_there c.args.locks.now c.loop-lock.lock (sym c.is_short.ensures ∙ c.if-is_short.true))

pub loop-lock-preserved : goal.loop-lock-preserved
loop-lock-preserved c =
    let below : c.loop-lock.lock < length c.args.locks.now = search rules in
    short_more c.args.locks.now c.loop-lock.lock below c.loop-lock.invariant (sym c.is_short.ensures ∙ c.if-is_short.false)
