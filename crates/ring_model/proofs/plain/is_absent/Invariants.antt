use Rattle.std.proofs.Common.{ℕ, ◌<◌, ◌≤◌, ◌≢◌, get_or}
use Rattle.ring_model.proofs.plain.is_absent.Given as goal

abbrev pub invariant-loop-machine : goal.invariant-loop-machine
invariant-loop-machine l = (k : ℕ) → 1 ≤ k → k < l.machine → get_or l.values k 0 ≢ l.value
