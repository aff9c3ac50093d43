use Rattle.held_locks.proofs.OpenHolds.{open_more}
use Rattle.held_locks.proofs.opened.open_after.Goals as goal

pub loop-event-preserved : goal.loop-event-preserved
loop-event-preserved c = open_more c.args.base.now c.args.events.now c.loop-event.event-index _ c.loop-event.held c.open_behind-held.result c.loop-event-test.true c.loop-event.invariant c.open_behind-held.ensures
