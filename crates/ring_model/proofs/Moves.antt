-- The effect of one move on the privileges, and closure.
use Rattle.std.proofs.Common.{◌≡◌, ℕ, zero, suc, ◌+◌, ◌-◌, ◌%◌, ◌<◌, ◌≤◌, ◌≢◌, true, false, not, List, length, get_or, sym, ◌∙◌, ap, inl, inr, arith, eqb, get_or-set_same, get_or-set_other}
use Rattle.std.proofs.lemmas.List.{length-set}
use Rattle.std.specs.Prelude.{◌⊎◌}
use Rattle.std.proofs.lemmas.Bool.{eq-eqb, eqb-true, ne_eqb, not_from_true}
use Rattle.ring_model.specs.Numbers.{bit, count_below}
use Rattle.ring_model.specs.Ring.{Ring, IsRing, is_privileged, moved_value, moved, right_neighbour, privileged_count}
use Rattle.ring_model.specs.Laws.{Closure, OthersKeep}
use Rattle.ring_model.proofs.Below.{sum_but_two, bit_le, bit_at, wrap}

pub length_move : (r : Ring) (i : ℕ) → length (moved r i).values ≡ length r.values
length_move r i = length-set r.values i (moved_value r i)

pub at_mover : (r : Ring) (i : ℕ) → i < length r.values → get_or (moved r i).values i 0 ≡ moved_value r i
at_mover r i l = get_or-set_same r.values i (moved_value r i) 0 l

pub at_other : (r : Ring) (i k : ℕ) → k ≢ i → get_or (moved r i).values k 0 ≡ get_or r.values k 0
at_other r i k ne = get_or-set_other r.values i k (moved_value r i) 0 ne

-- privilege, in equations

pub last_is_first : (s : List ℕ) → is_privileged s 0 ≡ true → get_or s (length s - 1) 0 ≡ get_or s 0 0
last_is_first s e = eqb-true (get_or s (length s - 1) 0) (get_or s 0 0) e

pub same_value : (a b c d : ℕ) → a ≡ c → b ≡ d → eqb a b ≡ eqb c d
same_value a b c d e f = cc

-- the right neighbour

pub next_is : (s : List ℕ) (i : ℕ) → i < length s → ((i + 1 < length s) × (right_neighbour s i ≡ i + 1)) ⊎ ((i + 1 ≡ length s) × (right_neighbour s i ≡ 0))
next_is s i l = elim (wrap (length s) i 1 l (omega arith)) [ inl a ↦ inl (a.0, a.1) | inr a ↦ inr (omega arith, omega arith) ]

-- pointwise: the mover loses its privilege, and only its right neighbour's may also change

pub mover_loses : (r : Ring) (i : ℕ) → IsRing r → i < length r.values → is_privileged r.values i ≡ true → is_privileged (moved r i).values i ≡ false
mover_loses r zero g l e =
    let n : length (moved r 0).values ≡ length r.values = length_move r 0 in
    let two = g.two in
    let a : get_or (moved r 0).values (length r.values - 1) 0 ≡ get_or r.values (length r.values - 1) 0 = at_other r 0 (length r.values - 1) (omega arith) in
    let a' : get_or (moved r 0).values (length (moved r 0).values - 1) 0 ≡ get_or r.values (length r.values - 1) 0 = ap (λ x. get_or (moved r 0).values (x - 1) 0) n ∙ a in
    let b : get_or (moved r 0).values 0 0 ≡ (get_or r.values 0 0 + 1) % r.k = at_mover r 0 l in
    let c : get_or r.values (length r.values - 1) 0 ≡ get_or r.values 0 0 = last_is_first r.values e in
    let small : get_or r.values 0 0 < r.k = g.below 0 l in
    let big = g.enough in
    ne_eqb (get_or (moved r 0).values (length (moved r 0).values - 1) 0) (get_or (moved r 0).values 0 0)
    (λ q. elim (wrap r.k (get_or r.values 0 0) 1 small (omega arith)) [ inl w ↦ omega arith | inr w ↦ omega arith ])
mover_loses r (suc i) g l e =
    let a : get_or (moved r (suc i)).values i 0 ≡ get_or r.values i 0 = at_other r (suc i) i (omega arith) in
    let b : get_or (moved r (suc i)).values (suc i) 0 ≡ get_or r.values i 0 = at_mover r (suc i) l in
    not_from_true (eqb (get_or (moved r (suc i)).values i 0) (get_or (moved r (suc i)).values (suc i) 0)) (eq-eqb (get_or (moved r (suc i)).values i 0) (get_or (moved r (suc i)).values (suc i) 0) (a ∙ sym b))

pub others_same : (r : Ring) (i k : ℕ) → IsRing r → i < length r.values → k < length r.values → k ≢ i → k ≢ right_neighbour r.values i →
    is_privileged (moved r i).values k ≡ is_privileged r.values k
others_same r i zero g l lk ni nn =
    let n : length (moved r i).values ≡ length r.values = length_move r i in
    let two = g.two in
    let ne : length r.values - 1 ≢ i = elim (next_is r.values i l) [ inl w ↦ omega arith | inr w ↦ omega arith ] in
    let a : get_or (moved r i).values (length r.values - 1) 0 ≡ get_or r.values (length r.values - 1) 0 = at_other r i (length r.values - 1) ne in
    let a' : get_or (moved r i).values (length (moved r i).values - 1) 0 ≡ get_or r.values (length r.values - 1) 0 = ap (λ x. get_or (moved r i).values (x - 1) 0) n ∙ a in
    let b : get_or (moved r i).values 0 0 ≡ get_or r.values 0 0 = at_other r i 0 ni in
    same_value _ _ _ _ a' b
others_same r i (suc k) g l lk ni nn =
    let ne : k ≢ i = elim (next_is r.values i l) [ inl w ↦ omega arith | inr w ↦ omega arith ] in
    let a : get_or (moved r i).values k 0 ≡ get_or r.values k 0 = at_other r i k ne in
    let b : get_or (moved r i).values (suc k) 0 ≡ get_or r.values (suc k) 0 = at_other r i (suc k) ni in
    ap not (same_value _ _ _ _ a b)

-- the count does not rise
pub closure : (r : Ring) (i : ℕ) → IsRing r → i < length r.values → is_privileged r.values i ≡ true → privileged_count (moved r i).values ≤ privileged_count r.values
closure r i g l e =
    let t = moved r i in
    let n : length t.values ≡ length r.values = length_move r i in
    let two = g.two in
    let x : right_neighbour r.values i < length r.values = elim (next_is r.values i l) [ inl w ↦ omega arith | inr w ↦ omega arith ] in
    let ne : i ≢ right_neighbour r.values i = elim (next_is r.values i l) [ inl w ↦ omega arith | inr w ↦ omega arith ] in
    let sums : count_below (is_privileged r.values) (length r.values) + (bit (is_privileged t.values i) + bit (is_privileged t.values (right_neighbour r.values i)))
    ≡ count_below (is_privileged t.values) (length r.values) + (bit (is_privileged r.values i) + bit (is_privileged r.values (right_neighbour r.values i))) =
    sum_but_two (λ k. bit (is_privileged r.values k)) (λ k. bit (is_privileged t.values k)) i (right_neighbour r.values i) (length r.values) l x ne
    (λ k lk ni nn. sym (bit_at (is_privileged t.values k) (is_privileged r.values k) (others_same r i k g l lk ni nn))) in
    let before : bit (is_privileged r.values i) ≡ 1 = bit_at (is_privileged r.values i) true e in
    let after_passes : bit (is_privileged t.values i) ≡ 0 = bit_at (is_privileged t.values i) false (mover_loses r i g l e) in
    let one : bit (is_privileged t.values (right_neighbour r.values i)) ≤ 1 = bit_le (is_privileged t.values (right_neighbour r.values i)) in
    let c : privileged_count t.values ≡ count_below (is_privileged t.values) (length r.values) = ap (count_below (is_privileged t.values)) n in
    omega arith

-- all of it
pub others_keep : OthersKeep
others_keep r i g l j lj ni nn = others_same r i j g l lj ni nn

pub closed : Closure
closed r i g l e = record { count = closure r i g l e; mover = mover_loses r i g l e; others = others_keep r i g l }
