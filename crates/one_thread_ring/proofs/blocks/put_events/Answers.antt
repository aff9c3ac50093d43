use Rattle.std.proofs.Common.{refl}
use Rattle.saved_history.proofs.Passing.{below_more, below_fault, below_all}
use Rattle.one_thread_ring.proofs.SavedParts.{events_spelled}
use Rattle.one_thread_ring.proofs.blocks.put_events.Goals as goal

pub returns-in-Err-clause-written : goal.returns-in-Err-clause-written
returns-in-Err-clause-written g c = below_fault events_spelled c.loop-event.invariant _ _ _ refl c.in-Err.fault c.loop-event-test.true (rw c.saved_event.ensures.is at c.in-Err.ensures.written)

pub loop-event-preserved : goal.loop-event-preserved
loop-event-preserved g c = below_more events_spelled c.loop-event.invariant _ _ _ refl c.loop-event-test.true (rw c.saved_event.ensures.is at c.in-Ok.ensures.written) (rw c.saved_event.ensures.is at c.saved_event.ensures.fits)

pub returns : goal.returns
returns g c = let p = below_all events_spelled c.loop-event.invariant c.loop-event-test.false in record { written = p.0; fits = p.1 }
