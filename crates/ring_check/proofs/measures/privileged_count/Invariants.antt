use Rattle.std.proofs.Common.{◌≡◌, ◌≤◌}
use Rattle.ring_model.specs.Numbers.{count_below}
use Rattle.ring_model.specs.Ring.{is_privileged}
use Rattle.ring_check.proofs.measures.privileged_count.Given as goal

abbrev pub invariant-loop-i : goal.invariant-loop-i
invariant-loop-i l = (l.count ≡ count_below (is_privileged l.values) l.i) × (l.count ≤ l.i)
