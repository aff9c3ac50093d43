use Rattle.std.proofs.Common.{◌-◌, ◌≡◌, ◌≤◌}
use Rattle.ring_lanes.specs.Hits.{count_from}
use Rattle.ring_lanes.proofs.kernels.count_hits.Given as goal

abbrev pub invariant-loop-i : goal.invariant-loop-i
invariant-loop-i g l = record { low : 1 ≤ l.i; high : l.i ≤ l.n; counted : l.count ≡ count_from (g.P.Probe.hit l.p) 0 l.i }

abbrev pub decreases-loop-i : goal.decreases-loop-i
decreases-loop-i g l = l.n - l.i
