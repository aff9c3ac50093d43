use Rattle.std.proofs.Common.{◌≡◌, ◌+◌, ◌++◌, length, drop, vec_capacity, ◌≤◌}
use Rattle.ring_logs.specs.Seats.{receipts_from}
use Rattle.ring_shared.proofs.groups.log_events.Given as goal

abbrev pub invariant-loop-event : goal.invariant-loop-event
invariant-loop-event l = record {
  at : l.position ≡ l.first + l.event-index;
  logged : l.log.items ++ receipts_from l.position (drop l.event-index l.events) ≡ l.fn.log.items ++ receipts_from l.first l.events;
  capacity : vec_capacity l.log ≡ vec_capacity l.fn.log;
  room : length l.log.items + length (drop l.event-index l.events) ≤ vec_capacity l.log;
}
