use Rattle.one_thread_ring.proofs.SavedParts.{events_text, EventsFit}
use Rattle.endless_ring.proofs.Filled.{FilledBelow}
use Rattle.endless_ring.proofs.fills.put_events.Given as goal

abbrev pub invariant-loop-event : goal.invariant-loop-event
invariant-loop-event l = FilledBelow events_text EventsFit l.initial.out l.out l.place l.behind l.history l.event-index
