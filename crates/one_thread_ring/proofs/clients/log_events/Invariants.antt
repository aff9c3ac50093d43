use Rattle.std.proofs.Common.{◌≡◌, ◌+◌, ◌++◌, drop}
use Rattle.one_thread_ring.specs.Clients.{receipts_by}
use Rattle.one_thread_ring.proofs.clients.log_events.Given as goal

abbrev pub invariant-loop-event : goal.invariant-loop-event
invariant-loop-event l = record {
  at : l.position ≡ l.first + l.event-index;
  logged : l.log.items ++ receipts_by l.seat l.position (drop l.event-index l.events) ≡ l.fn.log.items ++ receipts_by l.seat l.first l.events;
}
