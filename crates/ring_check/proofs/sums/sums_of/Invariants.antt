use Rattle.std.proofs.Common.{◌≡◌, take, map, length}
use Rattle.std.specs.List.{sum_by}
use Rattle.ring_model.specs.Surveys.{granted_count, corrupted_count}
use Rattle.saved_history.specs.Content.{block_of}
use Rattle.ring_check.specs.Legal.{history}
use Rattle.ring_check.proofs.sums.sums_of.Given as goal

abbrev pub invariant-loop-ring : goal.invariant-loop-ring
invariant-loop-ring l = record {
  rings : l.sums.rings ≡ length l.rings;
  events : l.sums.events ≡ sum_by (λ b. length b.events) (take l.ring-index (map block_of l.rings));
  granted : l.sums.granted ≡ sum_by (λ b. granted_count (history b)) (take l.ring-index (map block_of l.rings));
  corrupted : l.sums.corrupted ≡ sum_by (λ b. corrupted_count (history b)) (take l.ring-index (map block_of l.rings));
  surveys : l.sums.surveys ≡ sum_by (λ b. length b.surveys) (take l.ring-index (map block_of l.rings));
}
