use Rattle.std.proofs.Common.{◌≤◌}
use Rattle.saved_history.specs.Content.{block_of}
use Rattle.history_steps.specs.Steps.{ring_at, HasRing}
use Rattle.history_repairs.specs.Walks.{counted}
use Rattle.history_repairs.proofs.Walking.{AreFound}
use Rattle.history_repairs.proofs.repairs.repairs_of.Given as goal

abbrev pub invariant-loop-place : goal.invariant-loop-place
invariant-loop-place l = record {
  ring : HasRing l.ring (ring_at (block_of l.ring) l.place) l.gauge;
  found : AreFound (block_of l.ring) l.place l.found.items l.current;
  few : counted l.current ≤ l.place;
}
