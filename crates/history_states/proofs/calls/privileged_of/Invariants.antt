use Rattle.std.proofs.Common.{◌≡◌, length, take}
use Rattle.std.specs.List.{filter, range_with_len}
use Rattle.ring_model.specs.Ring.{is_privileged}
use Rattle.history_states.proofs.calls.privileged_of.Given as goal

abbrev pub invariant-loop-machine : goal.invariant-loop-machine
invariant-loop-machine l = l.found.items ≡ filter (is_privileged l.values) (take l.machine (range_with_len 0 (length l.values)))
