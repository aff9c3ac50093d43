use Rattle.std.proofs.Common.{◌≡◌, ℕ, ◌+◌, ◌*◌, ◌<◌, get_or}
use Rattle.ring_model.specs.Numbers.{sum_below}
use Rattle.ring_repairs.specs.Histograms.{counted, counted_below}
use Rattle.ring_repairs.proofs.histograms.quantile_of.Given as goal

abbrev pub invariant-loop-number : goal.invariant-loop-number
invariant-loop-number l = record {
  is : l.below ≡ sum_below (λ v. get_or l.counts v 0) l.number;
  few : (j : ℕ) → j < l.number → l.whole * counted_below l.counts (j + 1) < l.part * counted l.counts;
}
