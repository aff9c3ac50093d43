use Rattle.lock_journal.proofs.Telling.{piece_more}
use Rattle.lock_journal.specs.Noting.{note_of_left}
use Rattle.lock_journal.proofs.noting.note_left.Goals as goal

pub loop-one-preserved : goal.loop-one-preserved
loop-one-preserved c = piece_more (note_of_left c.args.locks.now) c.args.left.now c.loop-one.one-index _ _ _ _ c.loop-one-test.true c.loop-one.invariant c.in-Ok.ensures
