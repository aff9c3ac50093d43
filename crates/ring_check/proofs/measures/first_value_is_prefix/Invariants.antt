use Rattle.std.proofs.Common.{◌≡◌, ℕ, ◌<◌, suc, get_or}
use Rattle.ring_check.proofs.measures.first_value_is_prefix.Given as goal

abbrev pub invariant-loop-i : goal.invariant-loop-i
invariant-loop-i l = (k : ℕ) → suc k < l.i → get_or l.values (suc k) 0 ≡ get_or l.values 0 0 → get_or l.values k 0 ≡ get_or l.values 0 0
