-- A copy lowers the weight by at least 1, and a step of machine 0 raises it by at most n - 1.
use Rattle.std.proofs.Common.{◌≡◌, ℕ, zero, suc, ◌+◌, ◌-◌, ◌<◌, ◌≤◌, ◌≢◌, true, false, cond, List, length, refl, sym, ◌∙◌, ap, inl, inr, arith}
use Rattle.std.proofs.lemmas.Bool.{cond-true, cond-false, cond_both}
use Rattle.ring_model.specs.Numbers.{sum_below}
use Rattle.ring_model.specs.Ring.{Ring, IsRing, is_privileged, moved, right_neighbour, weight_at, weight}
use Rattle.ring_model.proofs.Below.{sum_but_two}
use Rattle.ring_model.proofs.Moves.{length_move, mover_loses, others_same, next_is}

pub pull_le : (s : List ℕ) (i : ℕ) → weight_at s i ≤ length s - i
pull_le s zero = omega arith
pull_le s (suc i) = cond_both (is_privileged s (suc i)) (length s - suc i) 0 (λ x. x ≤ length s - suc i) (λ _. omega arith) (λ _. omega arith)

pub pull_true : (s : List ℕ) (i : ℕ) → is_privileged s (suc i) ≡ true → weight_at s (suc i) ≡ length s - suc i
pull_true s i e = cond-true (is_privileged s (suc i)) (length s - suc i) 0 e

pub pull_false : (s : List ℕ) (i : ℕ) → is_privileged s (suc i) ≡ false → weight_at s (suc i) ≡ 0
pull_false s i e = cond-false (is_privileged s (suc i)) (length s - suc i) 0 e

pub pull_same : (s t : List ℕ) (i : ℕ) → length t ≡ length s → is_privileged t i ≡ is_privileged s i → weight_at s i ≡ weight_at t i
pull_same s t zero n e = refl
pull_same s t (suc i) n e = sym (ap (λ b. cond b (length t - suc i) 0) e ∙ ap (λ x. cond (is_privileged s (suc i)) (x - suc i) 0) n)

-- the two weights, apart from the mover and its right neighbour
pub weights : (r : Ring) (i : ℕ) → IsRing r → i < length r.values →
    weight r.values + (weight_at (moved r i).values i + weight_at (moved r i).values (right_neighbour r.values i)) ≡ weight (moved r i).values + (weight_at r.values i + weight_at r.values (right_neighbour r.values i))
weights r i g l =
    let t = moved r i in
    let n : length t.values ≡ length r.values = length_move r i in
    let two = g.two in
    let x : right_neighbour r.values i < length r.values = elim (next_is r.values i l) [ inl w ↦ omega arith | inr w ↦ omega arith ] in
    let ne : i ≢ right_neighbour r.values i = elim (next_is r.values i l) [ inl w ↦ omega arith | inr w ↦ omega arith ] in
    let sums : sum_below (weight_at r.values) (length r.values) + (weight_at t.values i + weight_at t.values (right_neighbour r.values i)) ≡ sum_below (weight_at t.values) (length r.values) + (weight_at r.values i + weight_at r.values (right_neighbour r.values i)) =
    sum_but_two (weight_at r.values) (weight_at t.values) i (right_neighbour r.values i) (length r.values) l x ne (λ k lk ni nn. pull_same r.values t.values k n (others_same r i k g l lk ni nn)) in
    let w : weight t.values ≡ sum_below (weight_at t.values) (length r.values) = ap (sum_below (weight_at t.values)) n in
    omega arith

-- a copy lowers the weight
pub weight_copy : (r : Ring) (i : ℕ) → IsRing r → suc i < length r.values → is_privileged r.values (suc i) ≡ true →
    weight (moved r (suc i)).values + 1 ≤ weight r.values
weight_copy r i g l e =
    let t = moved r (suc i) in
    let n : length t.values ≡ length r.values = length_move r (suc i) in
    let sums : weight r.values + (weight_at t.values (suc i) + weight_at t.values (right_neighbour r.values (suc i))) ≡ weight t.values + (weight_at r.values (suc i) + weight_at r.values (right_neighbour r.values (suc i))) = weights r (suc i) g l in
    let before : weight_at r.values (suc i) ≡ length r.values - suc i = pull_true r.values i e in
    let after_passes : weight_at t.values (suc i) ≡ 0 = pull_false t.values i (mover_loses r (suc i) g l e) in
    let right : weight_at t.values (right_neighbour r.values (suc i)) ≤ length r.values - (suc i + 1) = elim (next_is r.values (suc i) l) [
      | inl w ↦ let p : weight_at t.values (right_neighbour r.values (suc i)) ≤ length t.values - right_neighbour r.values (suc i) = pull_le t.values (right_neighbour r.values (suc i)) in omega arith
      | inr w ↦ let p : weight_at t.values (right_neighbour r.values (suc i)) ≡ 0 = ap (weight_at t.values) w.1 in omega arith
    ] in
    omega arith

-- a step of machine 0 raises it by less than n
pub weight_step : (r : Ring) → IsRing r → weight (moved r 0).values + 1 ≤ weight r.values + length r.values
weight_step r g =
    let t = moved r 0 in
    let n : length t.values ≡ length r.values = length_move r 0 in
    let two = g.two in
    let l : 0 < length r.values = omega arith in
    let sums : weight r.values + (0 + weight_at t.values (right_neighbour r.values 0)) ≡ weight t.values + (0 + weight_at r.values (right_neighbour r.values 0)) = weights r 0 g l in
    let one : right_neighbour r.values 0 ≡ 1 = elim (next_is r.values 0 l) [ inl w ↦ omega arith | inr w ↦ omega arith ] in
    let right : weight_at t.values (right_neighbour r.values 0) ≤ length t.values - right_neighbour r.values 0 = pull_le t.values (right_neighbour r.values 0) in
    omega arith
