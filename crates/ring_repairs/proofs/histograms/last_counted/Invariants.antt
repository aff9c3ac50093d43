use Rattle.std.proofs.Common.{◌≡◌, ℕ, ◌-◌, ◌<◌, ◌≤◌, length, get_or}
use Rattle.ring_repairs.proofs.histograms.last_counted.Given as goal

abbrev pub invariant-loop-above : goal.invariant-loop-above
invariant-loop-above l = (j : ℕ) → length l.counts - l.above ≤ j → j < length l.counts → get_or l.counts j 0 ≡ 0
