use Rattle.std.proofs.Common.{◌≡◌, ℕ, ◌<◌, false}
use Rattle.ring_model.specs.Ring.{is_privileged}
use Rattle.ring_check.proofs.measures.first_privileged.Given as goal

abbrev pub invariant-loop-i : goal.invariant-loop-i
invariant-loop-i l = (k : ℕ) → k < l.i → is_privileged l.values k ≡ false
