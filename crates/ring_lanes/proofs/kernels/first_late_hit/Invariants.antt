use Rattle.std.proofs.Common.{◌-◌, ◌≤◌}
use Rattle.ring_lanes.proofs.Joined.{NoHit}
use Rattle.ring_lanes.proofs.kernels.first_late_hit.Given as goal

abbrev pub invariant-loop-i : goal.invariant-loop-i
invariant-loop-i g l = record { low : l.from ≤ l.i; high : l.i ≤ l.n; none : NoHit (g.P.Probe.hit l.p) l.from l.i }

abbrev pub decreases-loop-i : goal.decreases-loop-i
decreases-loop-i g l = l.n - l.i
