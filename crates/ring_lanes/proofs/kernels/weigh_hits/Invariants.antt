use Rattle.std.proofs.Common.{◌-◌, ◌≡◌, ◌≤◌}
use Rattle.ring_lanes.specs.Hits.{weight_from}
use Rattle.ring_lanes.proofs.kernels.weigh_hits.Given as goal

abbrev pub invariant-loop-i : goal.invariant-loop-i
invariant-loop-i g l = record { low : 1 ≤ l.i; high : l.i ≤ l.n; weighed : l.total ≡ weight_from (g.P.Probe.hit l.p) (g.P.Probe.size l.p) 1 (l.i - 1) }

abbrev pub decreases-loop-i : goal.decreases-loop-i
decreases-loop-i g l = l.n - l.i

abbrev pub invariant-loop-i-2 : goal.invariant-loop-i-2
invariant-loop-i-2 g l = record { low : 1 ≤ l.i; high : l.i ≤ l.n; weighed : l.total ≡ weight_from (g.P.Probe.hit l.p) (g.P.Probe.size l.p) 1 (l.i - 1) }

abbrev pub decreases-loop-i-2 : goal.decreases-loop-i-2
decreases-loop-i-2 g l = l.n - l.i
