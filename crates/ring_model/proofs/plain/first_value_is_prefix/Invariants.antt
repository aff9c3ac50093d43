use Rattle.std.proofs.Common.{◌≡◌, ℕ, suc, ◌<◌, get_or}
use Rattle.ring_model.proofs.plain.first_value_is_prefix.Given as goal

abbrev pub invariant-loop-machine : goal.invariant-loop-machine
invariant-loop-machine l = (k : ℕ) → suc k < l.machine → get_or l.values (suc k) 0 ≡ get_or l.values 0 0 → get_or l.values k 0 ≡ get_or l.values 0 0
