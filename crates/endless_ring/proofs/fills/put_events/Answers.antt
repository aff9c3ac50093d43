use Rattle.std.proofs.Common.{refl, ap, ◌∙◌}
use Rattle.saved_history.specs.Spelling.{event_line}
use Rattle.one_thread_ring.proofs.SavedParts.{events_spelled}
use Rattle.endless_ring.proofs.Filled.{below_more, below_all, fills_same}
use Rattle.endless_ring.proofs.fills.put_events.Goals as goal

pub loop-event-preserved : goal.loop-event-preserved
loop-event-preserved c =
    let line = fills_same _ _ (c.as_bytes.ensures ∙ (c.event_line.ensures ∙ ap event_line c.saved_event.ensures.is)) c.put-behind.ensures in
    below_more events_spelled c.loop-event.invariant _ _ _ _ refl c.loop-event-test.true line (rw c.saved_event.ensures.is at c.saved_event.ensures.fits)

pub returns : goal.returns
returns c = let p = below_all events_spelled c.loop-event.invariant c.loop-event-test.false in record { written = p.0; fits = p.1 }
