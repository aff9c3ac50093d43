-- A move keeps a ring, some machine is always privileged, a settled ring stays settled and passes its privilege to the right, and the rest is 0 only there.
use Rattle.std.proofs.Common.{◌≡◌, ℕ, zero, suc, ◌+◌, ◌-◌, ◌*◌, ◌<◌, ◌≤◌, ◌≢◌, Bool, true, false, List, length, get_or, refl, sym, ◌∙◌, ap, inl, inr, arith, eqb}
use Rattle.std.proofs.lemmas.Bool.{cases_eq, cases_lt, cases_Bool, eq-eqb, eqb-true, eqb-false, cond-true, cond-false, false_from_ne_true, true_from_ne_false, both_ways, not-false}
use Rattle.std.proofs.lemmas.Nat.{mod_below}
use Rattle.ring_model.specs.Numbers.{bit, count_below}
use Rattle.ring_model.specs.Ring.{Ring, IsRing, is_privileged, moved_value, moved, right_neighbour, privileged_count, first_privileged, is_settled, weight_at, weight, lead, rest}
use Rattle.ring_model.proofs.Below.{sum_one_le, sum_two_le, bit_at, least_le, least_passes}
use Rattle.ring_model.proofs.Moves.{length_move, at_mover, at_other, mover_loses, others_same, closure}
use Rattle.ring_model.proofs.Weight.{pull_true}
use Rattle.ring_model.proofs.Lead.{all_settled}
use Rattle.ring_model.proofs.Descent.{descent}

pub moved_below : (r : Ring) (i : ℕ) → IsRing r → i < length r.values → moved_value r i < r.k
moved_below r zero g l = let two = g.two in let enough = g.enough in mod_below (get_or r.values 0 0 + 1) r.k (omega arith)
moved_below r (suc i) g l = g.below i (omega arith)

pub below_at : (r : Ring) (i : ℕ) → IsRing r → i < length r.values → (k : ℕ) → k < length (moved r i).values → get_or (moved r i).values k 0 < r.k
below_at r i g l k lk =
    let n : length (moved r i).values ≡ length r.values = length_move r i in
    elim (cases_eq k i) [
      | inl e ↦
          let a : get_or (moved r i).values k 0 ≡ moved_value r i = ap (λ x. get_or (moved r i).values x 0) e ∙ at_mover r i l in
          let b : moved_value r i < r.k = moved_below r i g l in
          omega arith
      | inr ne ↦
          let a : get_or (moved r i).values k 0 ≡ get_or r.values k 0 = at_other r i k ne in
          let b : get_or r.values k 0 < r.k = g.below k (omega arith) in
          omega arith
    ]

-- a move keeps a ring
pub move_ring : (r : Ring) (i : ℕ) → IsRing r → i < length r.values → IsRing (moved r i)
move_ring r i g l =
    let two' = g.two in
    let enough' = g.enough in
    let n : length (moved r i).values ≡ length r.values = length_move r i in
    record { two = omega arith; enough = omega arith; below = below_at r i g l }

-- some machine is privileged

pub bit_zero : (b : Bool) → bit b ≡ 0 → b ≡ false
bit_zero true e = absurd (omega arith)
bit_zero false e = refl

pub count_some : (p : ℕ → Bool) (n : ℕ) → 1 ≤ count_below p n → (k : ℕ) × (k < n) × (p k ≡ true)
count_some p zero l = absurd (omega arith)
count_some p (suc n) l = elim (cases_Bool (p n)) [
  | inl y ↦ (n, omega arith, y)
  | inr f ↦
      let z : bit (p n) ≡ 0 = bit_at (p n) false f in
      let w = count_some p n (omega arith) in
      let lt : w.0 < n = w.1 in
      (w.0, omega arith, w.2)
]

pub all_equal : (s : List ℕ) → ((k : ℕ) → suc k < length s → is_privileged s (suc k) ≡ false) → (k : ℕ) → k < length s → get_or s k 0 ≡ get_or s 0 0
all_equal s h zero l = refl
all_equal s h (suc k) l =
    sym (eqb-true (get_or s k 0) (get_or s (suc k) 0) (not-false (eqb (get_or s k 0) (get_or s (suc k) 0)) (h k l))) ∙ all_equal s h k (omega arith)

pub count_positive : (s : List ℕ) → 1 ≤ length s → 1 ≤ privileged_count s
count_positive s one = elim (cases_lt (privileged_count s) 1) [
  | inl none ↦
      let off : (k : ℕ) → k < length s → is_privileged s k ≡ false = λ k l.
      let b : bit (is_privileged s k) ≤ privileged_count s = sum_one_le (λ i. bit (is_privileged s i)) k (length s) l in
      bit_zero (is_privileged s k) (omega arith) in
      let same : get_or s (length s - 1) 0 ≡ get_or s 0 0 = all_equal s (λ k l. off (suc k) l) (length s - 1) (omega arith) in
      absurd (eqb-false (get_or s (length s - 1) 0) (get_or s 0 0) (off 0 one) same)
  | inr some ↦ some
]

-- in a settled ring no two are
pub only_one : (s : List ℕ) (i k : ℕ) → is_settled s ≡ true → i < length s → k < length s → is_privileged s i ≡ true → is_privileged s k ≡ true → i ≡ k
only_one s i k u li lk ei ek = elim (cases_eq i k) [
  | inl e ↦ e
  | inr ne ↦
      let two : bit (is_privileged s i) + bit (is_privileged s k) ≤ privileged_count s = sum_two_le (λ j. bit (is_privileged s j)) i k (length s) li lk ne in
      let a : bit (is_privileged s i) ≡ 1 = bit_at (is_privileged s i) true ei in
      let b : bit (is_privileged s k) ≡ 1 = bit_at (is_privileged s k) true ek in
      let one : privileged_count s ≡ 1 = eqb-true (privileged_count s) 1 u in
      absurd (omega arith)
]

-- the first privileged machine is one
pub first_is : (s : List ℕ) → 1 ≤ length s → (first_privileged s < length s) × (is_privileged s (first_privileged s) ≡ true)
first_is s one =
    let w = count_some (is_privileged s) (length s) (count_positive s one) in
    let lt : w.0 < length s = w.1 in
    let le : first_privileged s ≤ w.0 = least_le (is_privileged s) 0 (length s) w.0 (omega arith) w.2 in
    let l : first_privileged s < length s = omega arith in
    (l, least_passes (is_privileged s) 0 (length s) (omega arith))

-- one move
pub settled_stays : (r : Ring) (i : ℕ) → IsRing r → i < length r.values → is_privileged r.values i ≡ true → is_settled r.values ≡ true → is_settled (moved r i).values ≡ true
settled_stays r i g l e u =
    let two = g.two in
    let n : length (moved r i).values ≡ length r.values = length_move r i in
    let a : privileged_count (moved r i).values ≤ privileged_count r.values = closure r i g l e in
    let b : privileged_count r.values ≡ 1 = eqb-true (privileged_count r.values) 1 u in
    let c : 1 ≤ privileged_count (moved r i).values = count_positive (moved r i).values (omega arith) in
    eq-eqb (privileged_count (moved r i).values) 1 (omega arith)

pub settled_passes : (r : Ring) (i : ℕ) → IsRing r → i < length r.values → is_privileged r.values i ≡ true → is_settled r.values ≡ true → first_privileged (moved r i).values ≡ right_neighbour r.values i
settled_passes r i g l e u =
    let two = g.two in
    let t = moved r i in
    let n : length t.values ≡ length r.values = length_move r i in
    let f = first_is t.values (omega arith) in
    let lt : first_privileged t.values < length t.values = f.0 in
    elim (cases_eq (first_privileged t.values) (right_neighbour r.values i)) [
      | inl q ↦ q
      | inr ne ↦
          let ni : first_privileged t.values ≢ i = λ q. both_ways (is_privileged t.values i) (mover_loses r i g l e) (sym (ap (is_privileged t.values) q) ∙ f.1) in
          let was : is_privileged r.values (first_privileged t.values) ≡ true = sym (others_same r i (first_privileged t.values) g l (omega arith) ni ne) ∙ f.1 in
          absurd (ni (only_one r.values (first_privileged t.values) i u (omega arith) l was e))
    ]

-- rest is 0 exactly in a settled ring
pub rest_settled : (r : Ring) → is_settled r.values ≡ true → rest r ≡ 0
rest_settled r u = cond-true (is_settled r.values) 0 (weight r.values + length r.values * lead r) u

pub zero_then : (s : List ℕ) → ((k : ℕ) → suc k < length s → is_privileged s (suc k) ≡ false) → (i : ℕ) → i < length s → is_privileged s i ≡ true → is_privileged s 0 ≡ true
zero_then s off zero l e = e
zero_then s off (suc i) l e = absurd (both_ways (is_privileged s (suc i)) (off i l) e)

pub rest_zero : (r : Ring) → 1 ≤ length r.values → rest r ≡ 0 → is_settled r.values ≡ true
rest_zero r one z = true_from_ne_false (is_settled r.values) (λ u.
    let a : rest r ≡ weight r.values + length r.values * lead r = cond-false (is_settled r.values) 0 (weight r.values + length r.values * lead r) u in
    let light : weight r.values ≡ 0 = omega arith in
    let off : (k : ℕ) → suc k < length r.values → is_privileged r.values (suc k) ≡ false = λ k l. false_from_ne_true (is_privileged r.values (suc k)) (λ e.
    let p : weight_at r.values (suc k) ≡ length r.values - suc k = pull_true r.values k e in
    let q : weight_at r.values (suc k) ≤ weight r.values = sum_one_le (weight_at r.values) (suc k) (length r.values) l in
    absurd (omega arith)) in
    let f = first_is r.values one in
    both_ways (is_settled r.values) u (all_settled r.values one (zero_then r.values off (first_privileged r.values) f.0 f.1) (all_equal r.values off)))

-- each move lowers rest by one, down to 0
pub rest_falls : (r : Ring) (i : ℕ) → IsRing r → i < length r.values → is_privileged r.values i ≡ true → rest (moved r i) ≤ rest r - 1
rest_falls r i g l e = elim (cases_Bool (is_settled r.values)) [
  | inl u ↦ let z : rest (moved r i) ≡ 0 = rest_settled (moved r i) (settled_stays r i g l e u) in omega arith
  | inr u ↦ let d : rest (moved r i) < rest r = descent r i g l e u in omega arith
]
