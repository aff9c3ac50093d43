-- The kernels compute the shared definitions of a ring.
use Rattle.std.proofs.Common.{◌≡◌, ℕ, zero, suc, ◌+◌, ◌-◌, ◌<◌, ◌≤◌, Bool, true, false, cond, not, eqb, List, length, get_or, refl, sym, ap, ◌∙◌, arith, inl, inr, ◌&&◌, ◌||◌}
use Rattle.std.proofs.lemmas.Bool.{cases_eq, both_ways, not-true, false_from_ne_true}
use Rattle.ring_model.specs.Numbers.{sum_below, bit, count_below, least}
use Rattle.ring_model.specs.Ring.{is_privileged, privileged_count, first_privileged, weight_at, weight, is_absent, first_value_is_prefix, IsPrefix}
use Rattle.ring_model.proofs.Below.{least_le, least_passes, every_at, every_from}
use Rattle.ring_model.proofs.Meaning.{front_means, prefix_front}
use Rattle.ring_lanes.specs.Hits.{privileged_at, returning_at, count_from, weight_from}
use Rattle.ring_lanes.proofs.Blocks.{count_from_none, count_from-one}
use Rattle.ring_lanes.proofs.Weights.{weight_from_none, weight_from-more, weight_from-one}

bit_is : (b : Bool) → cond {A = ℕ} b 1 0 ≡ bit b
bit_is true = refl
bit_is false = refl

pub count_is : (p : ℕ → Bool) (n : ℕ) → count_from p 0 n ≡ count_below p n
count_is p zero = count_from_none p
count_is p (suc n) =
    let ih : count_from p 0 n ≡ count_below p n = count_is p n in
    let next : suc n ≡ n + 1 = omega arith in
    let one : count_from p 0 (n + 1) ≡ count_from p 0 n + cond {A = ℕ} (p n) 1 0 = count_from-one p n in
    let last : cond {A = ℕ} (p n) 1 0 ≡ bit (p n) = bit_is (p n) in
    ap (count_from p 0) next ∙ (let whole : count_from p 0 (n + 1) ≡ count_below p n + bit (p n) = omega arith in whole)

pub privileged_is : (s : List ℕ) → privileged_at s ≡ is_privileged s
unfolding privileged_at
privileged_is s = refl

pub count_privileged : (s : List ℕ) → count_from (privileged_at s) 0 (length s) ≡ privileged_count s
count_privileged s = ap (λ (p : ℕ → Bool). count_from p 0 (length s)) (privileged_is s) ∙ count_is (is_privileged s) (length s)

weight_upto : (s : List ℕ) (m : ℕ) → weight_from (is_privileged s) (length s) 1 m ≡ sum_below (weight_at s) (suc m)
weight_upto s zero = weight_from_none (is_privileged s) (length s) 1
weight_upto s (suc m) =
    let p : ℕ → Bool = is_privileged s in
    let n = length s in
    let ih : weight_from p n 1 m ≡ sum_below (weight_at s) (suc m) = weight_upto s m in
    let next : suc m ≡ suc m + 1 - 1 = omega arith in
    let before : suc m - 1 ≡ m = omega arith in
    let more : weight_from p n 1 (suc m + 1 - 1) ≡ weight_from p n 1 (suc m - 1) + weight_from p n (suc m) 1 = weight_from-more p n (suc m) 1 (omega arith) in
    let here : weight_from p n (suc m) 1 ≡ weight_at s (suc m) = weight_from-one p n (suc m) in
    let last : weight_from p n 1 m + weight_from p n (suc m) 1 ≡ sum_below (weight_at s) (suc m) + weight_at s (suc m) = omega arith in
    ap (weight_from p n 1) next ∙ more ∙ ap (λ k. weight_from p n 1 k + weight_from p n (suc m) 1) before ∙ last

pub weight_privileged : (s : List ℕ) → 1 ≤ length s → weight_from (privileged_at s) (length s) 1 (length s - 1) ≡ weight s
weight_privileged s long =
    let whole : suc (length s - 1) ≡ length s = omega arith in
    ap (λ (p : ℕ → Bool). weight_from p (length s) 1 (length s - 1)) (privileged_is s) ∙ weight_upto s (length s - 1) ∙ ap (sum_below (weight_at s)) whole

-- the least number that passes is the one below which none does
pub least_is : (p : ℕ → Bool) (n r : ℕ) → r < n → p r ≡ true → ((k : ℕ) → k < r → p k ≡ false) → r ≡ least p 0 n
least_is p n r lt here before =
    let le : least p 0 n ≤ r = least_le p 0 n r (omega arith) here in
    elim (cases_eq r (least p 0 n)) [
      | inl e ↦ e
      | inr ne ↦
          let less : least p 0 n < r = omega arith in
          absurd (both_ways (p (least p 0 n)) (before (least p 0 n) less) (least_passes p 0 n (omega arith)))
    ]

pub first_is_zero : (s : List ℕ) → 1 ≤ length s → privileged_at s 0 ≡ true → 0 ≡ first_privileged s
unfolding privileged_at
first_is_zero s long here = least_is (is_privileged s) (length s) 0 (omega arith) here (λ k lt. absurd (omega arith))

none_below : (p : ℕ → Bool) (r : ℕ) → p 0 ≡ false → ((k : ℕ) → 1 ≤ k → k < r → p k ≡ false) → (k : ℕ) → k < r → p k ≡ false
none_below p r first before zero lt = first
none_below p r first before (suc k) lt = before (suc k) (omega arith) lt

pub first_is : (s : List ℕ) (r : ℕ) → r < length s → privileged_at s 0 ≡ false → ((k : ℕ) → 1 ≤ k → k < r → privileged_at s k ≡ false) → privileged_at s r ≡ true → r ≡ first_privileged s
unfolding privileged_at
first_is s r lt first before here = least_is (is_privileged s) (length s) r lt here (none_below (is_privileged s) r first before)

pub privileged_here : (s : List ℕ) (i : ℕ) → privileged_at s i ≡ true → is_privileged s i ≡ true
unfolding privileged_at
privileged_here s i e = e

-- whether some machine from 1 on holds v
pub absent_decided : (s : List ℕ) (v : ℕ) (b : Bool) → (b ≡ true → (k : ℕ) × (1 ≤ k) × (k < length s) × (eqb (get_or s k 0) v ≡ true))
    → (b ≡ false → (k : ℕ) → 1 ≤ k → k < length s → eqb (get_or s k 0) v ≡ false) → b ≡ not (is_absent s v)
absent_decided s v true found none =
    let at : (k : ℕ) × (1 ≤ k) × (k < length s) × (eqb (get_or s k 0) v ≡ true) = found refl in
    let low : 1 ≤ at.0 = at.1 in
    let high : at.0 < length s = at.2 in
    let place : suc (at.0 - 1) ≡ at.0 = omega arith in
    sym (ap not (false_from_ne_true (is_absent s v)
    (λ e. both_ways (eqb (get_or s at.0 0) v)
    (ap (λ k. eqb (get_or s k 0) v) (sym place) ∙ not-true _ (every_at (λ i. not (eqb (get_or s (suc i) 0) v)) (length s - 1) (at.0 - 1) e (omega arith)))
    at.3)))
absent_decided s v false found none =
    sym (ap not (every_from (λ i. not (eqb (get_or s (suc i) 0) v)) (length s - 1) (λ k lt. ap not (none refl (suc k) (omega arith) (omega arith)))))

turned : (a b : Bool) → not (a && not b) ≡ (b || not a)
turned true true = refl
turned true false = refl
turned false true = refl
turned false false = refl

-- the shared test of neighbours: no machine returns to the value of machine 0
pub prefix_decided : (s : List ℕ) (b : Bool) → (b ≡ true → (k : ℕ) × (1 ≤ k) × (k < length s) × (returning_at s k ≡ true))
    → (b ≡ false → (k : ℕ) → 1 ≤ k → k < length s → returning_at s k ≡ false) → not b ≡ first_value_is_prefix s
unfolding returning_at
prefix_decided s true found none =
    let at : (k : ℕ) × (1 ≤ k) × (k < length s) × (returning_at s k ≡ true) = found refl in
    let low : 1 ≤ at.0 = at.1 in
    let high : at.0 < length s = at.2 in
    let place : suc (at.0 - 1) ≡ at.0 = omega arith in
    let returns : returning_at s (suc (at.0 - 1)) ≡ true = ap (returning_at s) place ∙ at.3 in
    sym (false_from_ne_true (first_value_is_prefix s)
    (λ e. both_ways (returning_at s (suc (at.0 - 1)))
    (not-true _ (turned (eqb (get_or s (suc (at.0 - 1)) 0) (get_or s 0 0)) (eqb (get_or s (at.0 - 1) 0) (get_or s 0 0))
    ∙ every_at (λ i. eqb (get_or s i 0) (get_or s 0 0) || not (eqb (get_or s (suc i) 0) (get_or s 0 0))) (length s - 1) (at.0 - 1) e (omega arith)))
    returns))
prefix_decided s false found none =
    sym (every_from (λ i. eqb (get_or s i 0) (get_or s 0 0) || not (eqb (get_or s (suc i) 0) (get_or s 0 0))) (length s - 1)
    (λ k lt. sym (turned (eqb (get_or s (suc k) 0) (get_or s 0 0)) (eqb (get_or s k 0) (get_or s 0 0))) ∙ ap not (none refl (suc k) (omega arith) (omega arith))))

-- and that says that the value of machine 0 is held only by a prefix
pub prefix_means : (s : List ℕ) (b : Bool) → 1 ≤ length s → b ≡ first_value_is_prefix s → (b ≡ true → (p : ℕ) × IsPrefix s p) × (((p : ℕ) × IsPrefix s p) → b ≡ true)
prefix_means s b long e = (
  (λ t. let found : (p : ℕ) × (p < length s) × IsPrefix s p = (front_means s long).0 (sym e ∙ t) in (found.0, found.2)),
  (λ found. e ∙ prefix_front s found.0 found.1),
)
