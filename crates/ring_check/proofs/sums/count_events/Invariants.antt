use Rattle.std.proofs.Common.{◌≡◌, ◌≤◌, take, map}
use Rattle.ring_model.specs.Surveys.{granted_count, corrupted_count}
use Rattle.ring_check.specs.Table.{event_of}
use Rattle.ring_check.proofs.sums.count_events.Given as goal

abbrev pub invariant-loop-event : goal.invariant-loop-event
invariant-loop-event l = record {
  granted : l.granted ≡ granted_count (take l.event-index (map event_of l.events));
  corrupted : l.corrupted ≡ corrupted_count (take l.event-index (map event_of l.events));
  few_granted : l.granted ≤ l.event-index;
  few_corrupted : l.corrupted ≤ l.event-index;
}
