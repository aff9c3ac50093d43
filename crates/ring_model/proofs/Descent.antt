-- Each move of a ring that is not settled lowers the rest.
use Rattle.std.proofs.Common.{◌≡◌, ℕ, zero, suc, ◌+◌, ◌*◌, ◌<◌, ◌≤◌, true, false, length, ap, arith}
use Rattle.std.proofs.lemmas.Bool.{cond-false, cond_both}
use Rattle.std.proofs.Math.Nat.{mul-le-mul_left}
use Rattle.ring_model.specs.Ring.{Ring, IsRing, is_privileged, moved, is_settled, weight, lead, rest}
use Rattle.ring_model.proofs.Moves.{length_move}
use Rattle.ring_model.proofs.Weight.{weight_copy, weight_step}
use Rattle.ring_model.proofs.Lead.{lead_copy, lead_step}

pub rest_le : (r : Ring) → rest r ≤ weight r.values + length r.values * lead r
rest_le r = cond_both (is_settled r.values) 0 (weight r.values + length r.values * lead r) (λ x. x ≤ weight r.values + length r.values * lead r) (λ _. omega arith) (λ _. omega arith)

-- weight + n * lead falls at each move of a ring that is not settled
pub potential_falls : (r : Ring) (i : ℕ) → IsRing r → i < length r.values → is_privileged r.values i ≡ true → is_settled r.values ≡ false →
    weight (moved r i).values + length r.values * lead (moved r i) + 1 ≤ weight r.values + length r.values * lead r
potential_falls r zero g l e u =
    let w : weight (moved r 0).values + 1 ≤ weight r.values + length r.values = weight_step r g in
    let j : lead (moved r 0) + 1 ≤ lead r = lead_step r g e u in
    let m : length r.values * (lead (moved r 0) + 1) ≤ length r.values * lead r = mul-le-mul_left (length r.values) j in
    omega arith
potential_falls r (suc i) g l e u =
    let w : weight (moved r (suc i)).values + 1 ≤ weight r.values = weight_copy r i g l e in
    let j : lead (moved r (suc i)) ≤ lead r = lead_copy r i l in
    let m : length r.values * lead (moved r (suc i)) ≤ length r.values * lead r = mul-le-mul_left (length r.values) j in
    omega arith

pub descent : (r : Ring) (i : ℕ) → IsRing r → i < length r.values → is_privileged r.values i ≡ true → is_settled r.values ≡ false →
    rest (moved r i) < rest r
descent r i g l e u =
    let t = moved r i in
    let n : length t.values ≡ length r.values = length_move r i in
    let a : rest t ≤ weight t.values + length t.values * lead t = rest_le t in
    let a' : length t.values * lead t ≡ length r.values * lead t = ap (λ x. x * lead t) n in
    let b : rest r ≡ weight r.values + length r.values * lead r = cond-false (is_settled r.values) 0 (weight r.values + length r.values * lead r) u in
    let p : weight t.values + length r.values * lead t + 1 ≤ weight r.values + length r.values * lead r = potential_falls r i g l e u in
    omega arith
