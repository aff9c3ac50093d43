-- How often a number can be halved.
use Rattle.std.proofs.Common.{◌≡◌, ℕ, zero, suc, ◌+◌, ◌/◌, ◌<◌, ◌≤◌, refl, arith}
use Rattle.std.proofs.lemmas.Bool.{cond-true, cond-false, lt-ltb, le-ltb}
use Rattle.std.specs.Prelude.{nat_lt}
use Rattle.repair_picture.specs.Growth.{halvings}

pub halved_no_more : (most v : ℕ) → v < 2 → halvings most v ≡ 0
halved_no_more zero v l = refl
halved_no_more (suc most) v l = cond-true (nat_lt v 2) 0 (halvings most (v / 2) + 1) (lt-ltb v 2 l)

pub halved_once_more : (most v : ℕ) → 2 ≤ v → halvings (suc most) v ≡ halvings most (v / 2) + 1
halved_once_more most v l = cond-false (nat_lt v 2) 0 (halvings most (v / 2) + 1) (le-ltb v 2 l)
