use Rattle.std.proofs.Common.{ℕ, ◌≡◌, ◌<◌, get_or}
use Rattle.ring_state.proofs.cells.U8Cell.mask.Given as goal

abbrev pub invariant-loop-w : goal.invariant-loop-w
invariant-loop-w l = (k : ℕ) → k < l.w → get_or l.out k 0 ≡ get_or l.words k 0
