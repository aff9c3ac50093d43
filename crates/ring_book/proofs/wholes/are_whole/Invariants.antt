use Rattle.std.proofs.Common.{◌-◌, ◌≤◌, ◌↔◌, length, drop}
use Rattle.ring_model.specs.Groups.{IsWhole}
use Rattle.ring_book.proofs.wholes.are_whole.Given as goal

abbrev pub invariant-loop-place : goal.invariant-loop-place
invariant-loop-place l = record {
  within : l.place ≤ length l.events;
  whole : IsWhole l.n l.events ↔ IsWhole l.n (drop l.place l.events);
}

abbrev pub decreases-loop-place : goal.decreases-loop-place
decreases-loop-place l = length l.events - l.place
