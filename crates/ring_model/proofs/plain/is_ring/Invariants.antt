use Rattle.std.proofs.Common.{ℕ, ◌<◌, get_or}
use Rattle.ring_model.proofs.plain.is_ring.Given as goal

abbrev pub invariant-loop-value : goal.invariant-loop-value
invariant-loop-value l = (i : ℕ) → i < l.value-index → get_or l.values i 0 < l.k
