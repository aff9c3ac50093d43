use Rattle.lock_journal.proofs.Telling.{piece_more}
use Rattle.lock_journal.specs.Noting.{line_of_left}
use Rattle.lock_service.proofs.telling.tell_left.Goals as goal

pub loop-one-preserved : goal.loop-one-preserved
loop-one-preserved c = piece_more (line_of_left c.args.names.now) c.args.left.now c.loop-one.one-index _ _ _ _ c.loop-one-test.true c.loop-one.invariant c.in-Ok.ensures
