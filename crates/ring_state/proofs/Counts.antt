-- How many machines a count of them can give.
use Rattle.std.proofs.Common.{◌≡◌, ℕ, ◌≤◌, List, length, arith}
use Rattle.ring_model.specs.Ring.{is_privileged, privileged_count}
use Rattle.ring_model.proofs.Below.{count_le}

pub few_privileged : (s : List ℕ) (r : ℕ) → r ≡ privileged_count s → r ≤ length s
few_privileged s r e = let few : privileged_count s ≤ length s = count_le (is_privileged s) (length s) in omega arith
