use Rattle.std.proofs.Common.{◌≡◌, ◌-◌, ◌≤◌, ◌<◌, ℕ, length, get_or}
use Rattle.line_service.proofs.segment_names.count_zeros.Given as goal

abbrev pub invariant-loop-zeros : goal.invariant-loop-zeros
invariant-loop-zeros l = record {
  within : l.zeros ≤ length l.name;
  zeros : (k : ℕ) → k < l.zeros → get_or l.name k 0 ≡ 48;
}

abbrev pub decreases-loop-zeros : goal.decreases-loop-zeros
decreases-loop-zeros l = length l.initial.name - l.zeros
