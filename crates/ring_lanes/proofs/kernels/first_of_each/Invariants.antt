use Rattle.std.proofs.Common.{ℕ, ◌-◌, ◌≡◌, ◌≤◌, ◌<◌, false}
use Rattle.ring_lanes.proofs.kernels.first_of_each.Given as goal

abbrev pub invariant-loop-i : goal.invariant-loop-i
invariant-loop-i g l = record { low : l.from ≤ l.i; high : l.i ≤ l.n; before : (k : ℕ) → l.from ≤ k → k < l.i → g.P.Probe.hit l.p k ≡ false }

abbrev pub decreases-loop-i : goal.decreases-loop-i
decreases-loop-i g l = l.n - l.i
