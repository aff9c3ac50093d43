use Rattle.std.proofs.Common.{sym, ◌∙◌}
use Rattle.lock_journal.proofs.ShortLeft.{left_there, left_more}
use Rattle.lock_journal.proofs.due.has_short_left.Goals as goal

pub returns-then-is_short_at : goal.returns-then-is_short_at
returns-then-is_short_at c = sym (left_there c.args.locks.now c.args.left.now c.loop-one.one-index _ c.loop-one-test.true (sym c.is_short_at.ensures ∙ c.if-is_short_at.true))

pub loop-one-preserved : goal.loop-one-preserved
loop-one-preserved c = left_more c.args.locks.now c.args.left.now c.loop-one.one-index _ c.loop-one-test.true c.loop-one.invariant (sym c.is_short_at.ensures ∙ c.if-is_short_at.false)
