use Rattle.std.proofs.Common.{ℕ, ◌<◌, slice_index}
use Rattle.ring_state.proofs.states.RingState.from_values.Given as goal

abbrev pub invariant-loop-i : goal.invariant-loop-i
invariant-loop-i l = (j : ℕ) → j < l.i → slice_index l.values j < l.k
