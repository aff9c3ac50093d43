use Rattle.std.proofs.Common.{◌≡◌, ◌≤◌, ◌*◌}
use Rattle.ring_model.specs.Numbers.{sum_below}
use Rattle.ring_model.specs.Limits.{value_limit}
use Rattle.ring_model.specs.Ring.{weight_at}
use Rattle.ring_check.proofs.measures.weight.Given as goal

abbrev pub invariant-loop-i : goal.invariant-loop-i
invariant-loop-i l = (l.sum ≡ sum_below (weight_at l.values) l.i) × (l.sum ≤ value_limit * l.i)
