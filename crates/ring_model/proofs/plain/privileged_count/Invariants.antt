use Rattle.std.proofs.Common.{◌≡◌, ◌≤◌}
use Rattle.ring_model.specs.Numbers.{count_below}
use Rattle.ring_model.specs.Ring.{is_privileged}
use Rattle.ring_model.proofs.plain.privileged_count.Given as goal

abbrev pub invariant-loop-machine : goal.invariant-loop-machine
invariant-loop-machine l = record { count : l.count ≡ count_below (is_privileged l.values) l.machine; small : l.count ≤ l.machine }
