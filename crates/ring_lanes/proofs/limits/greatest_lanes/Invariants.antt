use Rattle.std.proofs.Common.{◌-◌}
use Rattle.ring_lanes.proofs.Folding.{Folded}
use Rattle.ring_lanes.proofs.limits.greatest_lanes.Given as goal

abbrev pub invariant-loop-i : goal.invariant-loop-i
invariant-loop-i l = Folded l.s l.i l.greatest

abbrev pub decreases-loop-i : goal.decreases-loop-i
decreases-loop-i l = l.n - l.i
