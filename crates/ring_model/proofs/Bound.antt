-- No rest is more than the bound.
use Rattle.std.proofs.Common.{◌≡◌, ℕ, zero, suc, ◌+◌, ◌-◌, ◌*◌, ◌/◌, ◌%◌, ◌^◌, ◌<◌, ◌≤◌, false, List, length, get_or, ap, inl, inr, arith}
use Rattle.std.proofs.lemmas.Bool.{cases_Bool, cond-true, cond-false, false_from_ne_true}
use Rattle.std.proofs.lemmas.Nat.{le-div}
use Rattle.std.proofs.Math.Nat.{mul-le-mul_left, div-le_self}
use Rattle.ring_model.specs.Numbers.{sum_below, least}
use Rattle.ring_model.specs.Ring.{Ring, is_absent, first_value_is_prefix, IsRing, weight_at, weight, lead, rest, bound}
use Rattle.ring_model.proofs.Below.{least_le}
use Rattle.ring_model.proofs.Weight.{pull_le}
use Rattle.ring_model.proofs.Lead.{some_absent, not_front, absent_true}
use Rattle.ring_model.proofs.Descent.{rest_le}

pub pulls_le : (s : List ℕ) (m : ℕ) → suc m ≤ length s → 2 * sum_below (weight_at s) (suc m) + suc m * m ≤ 2 * length s * m
pulls_le s zero l = omega arith
pulls_le s (suc m) l =
    let ih : 2 * sum_below (weight_at s) (suc m) + suc m * m ≤ 2 * length s * m = pulls_le s m (omega arith) in
    let p : weight_at s (suc m) ≤ length s - suc m = pull_le s (suc m) in
    omega arith

pub lead_le : (r : Ring) → IsRing r → lead r + 1 ≤ length r.values
lead_le r g =
    let two = g.two in
    let small : get_or r.values 0 0 < r.k = g.below 0 (omega arith) in
    let found : ℕ = least (λ j. is_absent r.values ((get_or r.values 0 0 + j) % r.k)) 1 r.k in
    elim (cases_Bool (first_value_is_prefix r.values)) [
      | inl f ↦ let a : lead r ≡ 0 = cond-true (first_value_is_prefix r.values) 0 found f in omega arith
      | inr f ↦
          let a : lead r ≡ found = cond-false (first_value_is_prefix r.values) 0 found f in
          let w = not_front r.values f in
          let there : is_absent r.values (get_or r.values 0 0) ≡ false = false_from_ne_true (is_absent r.values (get_or r.values 0 0)) (λ q. absent_true r.values (get_or r.values 0 0) q w.0 w.1 w.2) in
          let free = some_absent r.k (get_or r.values 0 0) r.values small g.enough (omega arith) there in
          let high : found ≤ free.0 = least_le (λ j. is_absent r.values ((get_or r.values 0 0 + j) % r.k)) 1 r.k free.0 free.1 free.3 in
          let below : free.0 < length r.values = free.2 in
          omega arith
    ]

pub potential_bounded : (r : Ring) → IsRing r → weight r.values + length r.values * lead r ≤ bound (length r.values)
potential_bounded r g =
    let two = g.two in
    let m : ℕ = length r.values - 1 in
    let n : suc m ≡ length r.values = omega arith in
    let w : 2 * sum_below (weight_at r.values) (suc m) + suc m * m ≤ 2 * length r.values * m = pulls_le r.values m (omega arith) in
    let w' : sum_below (weight_at r.values) (suc m) ≡ weight r.values = ap (sum_below (weight_at r.values)) n in
    let q : suc m * m ≡ length r.values * m = ap (λ x. x * m) n in
    let j : lead r ≤ m = let k : lead r + 1 ≤ length r.values = lead_le r g in omega arith in
    let p : length r.values * lead r ≤ length r.values * m = mul-le-mul_left (length r.values) j in
    le-div (weight r.values + length r.values * lead r) (3 * length r.values * m) 2 (omega arith) (omega arith)

pub rest_bounded : (r : Ring) → IsRing r → rest r ≤ bound (length r.values)
rest_bounded r g =
    let a : rest r ≤ weight r.values + length r.values * lead r = rest_le r in
    let p : weight r.values + length r.values * lead r ≤ bound (length r.values) = potential_bounded r g in
    omega arith

pub bound_small : (n : ℕ) → n ≤ 65536 → bound n < 2 ^ 40
bound_small n l =
    let a : n * (n - 1) ≤ n * 65536 = mul-le-mul_left n (omega arith) in
    let b : 3 * n * (n - 1) / 2 ≤ 3 * n * (n - 1) = div-le_self (3 * n * (n - 1)) 2 in
    omega arith
