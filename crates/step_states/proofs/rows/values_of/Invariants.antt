use Rattle.std.proofs.Common.{◌≡◌, take}
use Rattle.step_states.proofs.rows.values_of.Given as goal

abbrev pub invariant-loop-machine : goal.invariant-loop-machine
invariant-loop-machine l = l.values.items ≡ take l.machine l.ring.values
