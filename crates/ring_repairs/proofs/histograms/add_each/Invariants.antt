use Rattle.std.proofs.Common.{◌≡◌, ℕ, ◌+◌, ◌<◌, ◌≤◌, length, get_or}
use Rattle.ring_repairs.proofs.histograms.add_each.Given as goal

abbrev pub invariant-loop-number : goal.invariant-loop-number
invariant-loop-number l = record {
  numbers : length l.counts ≡ length l.initial.counts;
  done : (v : ℕ) → v < l.number → get_or l.counts v 0 ≡ get_or l.initial.counts v 0 + get_or l.more v 0;
  left : (v : ℕ) → l.number ≤ v → get_or l.counts v 0 ≡ get_or l.initial.counts v 0;
}
