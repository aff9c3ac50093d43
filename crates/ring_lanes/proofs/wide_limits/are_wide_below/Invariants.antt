use Rattle.ring_lanes.proofs.Greatest.{SomeBelow}
use Rattle.ring_lanes.proofs.wide_limits.are_wide_below.Given as goal

abbrev pub invariant-loop-value : goal.invariant-loop-value
invariant-loop-value l = SomeBelow l.limit l.s 0 l.value-index
