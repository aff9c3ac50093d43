use Rattle.std.proofs.Common.{◌≡◌, ◌≤◌, ◌*◌}
use Rattle.ring_model.specs.Numbers.{sum_below}
use Rattle.ring_model.specs.Limits.{value_limit}
use Rattle.ring_model.specs.Ring.{weight_at}
use Rattle.ring_model.proofs.plain.weight.Given as goal

abbrev pub invariant-loop-machine : goal.invariant-loop-machine
invariant-loop-machine l = record { sum : l.sum ≡ sum_below (weight_at l.values) l.machine; small : l.sum ≤ value_limit * l.machine }
