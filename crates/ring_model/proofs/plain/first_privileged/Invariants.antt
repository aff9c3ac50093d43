use Rattle.std.proofs.Common.{◌≡◌, ℕ, ◌<◌, false}
use Rattle.ring_model.specs.Ring.{is_privileged}
use Rattle.ring_model.proofs.plain.first_privileged.Given as goal

abbrev pub invariant-loop-machine : goal.invariant-loop-machine
invariant-loop-machine l = (k : ℕ) → k < l.machine → is_privileged l.values k ≡ false
