-- Sums, counts, tests and searches over the numbers below n, and addition round K. Nothing here speaks of a ring.
use Rattle.std.proofs.Common.{◌≡◌, ℕ, zero, suc, ◌+◌, ◌-◌, ◌%◌, ◌<◌, ◌≤◌, ◌≢◌, Bool, true, false, cond, refl, sym, ◌∙◌, ap, subst, inl, inr, arith}
use Rattle.ring_model.specs.Numbers.{every_below, sum_below, bit, count_below, least}
use Rattle.std.proofs.lemmas.Bool.{cases_eq, cases_lt, cases_Bool, and_parts, and_from, and_cases, cond_both, cond-true, cond-false, both_ways, false_from_ne_true, true≢false}
use Rattle.std.proofs.Math.Nat.{mod-eq_of_lt, mod-eq-sub-mod}
use Rattle.std.specs.Prelude.{◌⊎◌}

-- sums

pub sum_same : (f g : ℕ → ℕ) (n : ℕ) → ((k : ℕ) → k < n → f k ≡ g k) → sum_below f n ≡ sum_below g n
sum_same f g zero h = refl
sum_same f g (suc n) h =
    let a : sum_below f n ≡ sum_below g n = sum_same f g n (λ k l. h k (omega arith)) in
    let b : f n ≡ g n = h n (omega arith) in
    omega arith

-- sums of functions that differ only at a
pub sum_but_one : (f g : ℕ → ℕ) (a n : ℕ) → a < n → ((k : ℕ) → k < n → k ≢ a → f k ≡ g k) → sum_below f n + g a ≡ sum_below g n + f a
sum_but_one f g a zero l h = absurd (omega arith)
sum_but_one f g a (suc n) l h = elim (cases_eq a n) [
  | inl e ↦
      let same : sum_below f n ≡ sum_below g n = sum_same f g n (λ k lk. h k (omega arith) (omega arith)) in
      let fa : f a ≡ f n = ap f e in
      let ga : g a ≡ g n = ap g e in
      omega arith
  | inr ne ↦
      let ih : sum_below f n + g a ≡ sum_below g n + f a = sum_but_one f g a n (omega arith) (λ k lk nk. h k (omega arith) nk) in
      let b : f n ≡ g n = h n (omega arith) (omega arith) in
      omega arith
]

-- sums of functions that differ only at a and b
pub sum_but_two : (f g : ℕ → ℕ) (a b n : ℕ) → a < n → b < n → a ≢ b → ((k : ℕ) → k < n → k ≢ a → k ≢ b → f k ≡ g k) →
    sum_below f n + (g a + g b) ≡ sum_below g n + (f a + f b)
sum_but_two f g a b zero la lb ab h = absurd (omega arith)
sum_but_two f g a b (suc n) la lb ab h = elim (cases_eq a n) [
  | inl e ↦
      let one : sum_below f n + g b ≡ sum_below g n + f b =
      sum_but_one f g b n (omega arith) (λ k lk nk. h k (omega arith) (omega arith) nk) in
      let fa : f a ≡ f n = ap f e in
      let ga : g a ≡ g n = ap g e in
      omega arith
  | inr na ↦ elim (cases_eq b n) [
    | inl e ↦
        let one : sum_below f n + g a ≡ sum_below g n + f a =
        sum_but_one f g a n (omega arith) (λ k lk nk. h k (omega arith) nk (omega arith)) in
        let fb : f b ≡ f n = ap f e in
        let gb : g b ≡ g n = ap g e in
        omega arith
    | inr nb ↦
        let ih : sum_below f n + (g a + g b) ≡ sum_below g n + (f a + f b) =
        sum_but_two f g a b n (omega arith) (omega arith) ab (λ k lk nka nkb. h k (omega arith) nka nkb) in
        let same : f n ≡ g n = h n (omega arith) (omega arith) (omega arith) in
        omega arith
  ]
]

pub sum_zero : (f : ℕ → ℕ) (n : ℕ) → ((k : ℕ) → k < n → f k ≡ 0) → sum_below f n ≡ 0
sum_zero f zero h = refl
sum_zero f (suc n) h =
    let a : sum_below f n ≡ 0 = sum_zero f n (λ k l. h k (omega arith)) in
    let b : f n ≡ 0 = h n (omega arith) in
    omega arith

-- a sum is at least each of its terms
pub sum_one_le : (f : ℕ → ℕ) (a n : ℕ) → a < n → f a ≤ sum_below f n
sum_one_le f a zero l = absurd (omega arith)
sum_one_le f a (suc n) l = elim (cases_eq a n) [
  | inl e ↦ let fa : f a ≡ f n = ap f e in omega arith
  | inr ne ↦ let ih : f a ≤ sum_below f n = sum_one_le f a n (omega arith) in omega arith
]

-- and at least each two of its terms
pub sum_two_le : (f : ℕ → ℕ) (a b n : ℕ) → a < n → b < n → a ≢ b → f a + f b ≤ sum_below f n
sum_two_le f a b zero la lb ab = absurd (omega arith)
sum_two_le f a b (suc n) la lb ab = elim (cases_eq a n) [
  | inl e ↦
      let fa : f a ≡ f n = ap f e in
      let one : f b ≤ sum_below f n = sum_one_le f b n (omega arith) in
      omega arith
  | inr na ↦ elim (cases_eq b n) [
    | inl e ↦
        let fb : f b ≡ f n = ap f e in
        let one : f a ≤ sum_below f n = sum_one_le f a n (omega arith) in
        omega arith
    | inr nb ↦ let ih : f a + f b ≤ sum_below f n = sum_two_le f a b n (omega arith) (omega arith) ab in omega arith
  ]
]

-- where all other terms are 0 the sum is one term
pub sum_only : (f : ℕ → ℕ) (a n : ℕ) → a < n → ((k : ℕ) → k < n → k ≢ a → f k ≡ 0) → sum_below f n ≡ f a
sum_only f a n l h =
    let none : sum_below (λ _. 0) n ≡ 0 = sum_zero (λ _. 0) n (λ _ _. refl) in
    let one : sum_below f n + 0 ≡ sum_below (λ _. 0) n + f a = sum_but_one f (λ _. 0) a n l h in
    omega arith

pub sum_le : (f g : ℕ → ℕ) (n : ℕ) → ((k : ℕ) → k < n → f k ≤ g k) → sum_below f n ≤ sum_below g n
sum_le f g zero h = omega arith
sum_le f g (suc n) h =
    let a : sum_below f n ≤ sum_below g n = sum_le f g n (λ k l. h k (omega arith)) in
    let b : f n ≤ g n = h n (omega arith) in
    omega arith

pub sum_add : (f g : ℕ → ℕ) (n : ℕ) → sum_below (λ k. f k + g k) n ≡ sum_below f n + sum_below g n
sum_add f g zero = refl
sum_add f g (suc n) = let ih : sum_below (λ k. f k + g k) n ≡ sum_below f n + sum_below g n = sum_add f g n in omega arith

-- tests

pub bit_at : (b c : Bool) → b ≡ c → bit b ≡ bit c
bit_at b c e = ap bit e

pub bit_le : (b : Bool) → bit b ≤ 1
bit_le true = omega arith
bit_le false = omega arith

pub every_at : (p : ℕ → Bool) (n k : ℕ) → every_below p n ≡ true → k < n → p k ≡ true
every_at p zero k e l = absurd (omega arith)
every_at p (suc n) k e l = elim (cases_eq k n) [
  | inl q ↦ ap p q ∙ (and_parts (p n) (every_below p n) e).0
  | inr ne ↦ every_at p n k (and_parts (p n) (every_below p n) e).1 (omega arith)
]

pub every_from : (p : ℕ → Bool) (n : ℕ) → ((k : ℕ) → k < n → p k ≡ true) → every_below p n ≡ true
every_from p zero h = refl
every_from p (suc n) h = and_from (p n) (every_below p n) (h n (omega arith)) (every_from p n (λ k l. h k (omega arith)))

-- where not all pass, one fails
pub every_fails : (p : ℕ → Bool) (n : ℕ) → every_below p n ≡ false → (k : ℕ) × (k < n) × (p k ≡ false)
every_fails p zero e = absurd (true≢false e)
every_fails p (suc n) e = elim (and_cases (p n) (every_below p n) e) [
  | inl q ↦ (n, omega arith, q)
  | inr q ↦ let r : (k : ℕ) × (k < n) × (p k ≡ false) = every_fails p n q in (r.0, omega arith, r.2)
]

pub count_is : (p : ℕ → Bool) (n : ℕ) → ((k : ℕ) → k < n → p k ≡ true) → count_below p n ≡ n
count_is p zero h = refl
count_is p (suc n) h =
    let a : count_below p n ≡ n = count_is p n (λ k l. h k (omega arith)) in
    let b : bit (p n) ≡ 1 = bit_at (p n) true (h n (omega arith)) in
    omega arith

pub count_le : (p : ℕ → Bool) (n : ℕ) → count_below p n ≤ n
count_le p zero = omega arith
count_le p (suc n) = omega (arith, count_le p n, bit_le (p n))

-- where the count is below n, one fails
pub count_fails : (p : ℕ → Bool) (n : ℕ) → count_below p n < n → (k : ℕ) × (k < n) × (p k ≡ false)
count_fails p n l = elim (cases_Bool (every_below p n)) [
  | inl all ↦ let c : count_below p n ≡ n = count_is p n (λ k lk. every_at p n k all lk) in absurd (omega arith)
  | inr q ↦ every_fails p n q
]

-- the least one that passes

pub least_from : (p : ℕ → Bool) (from turns : ℕ) → from ≤ least p from turns
least_from p from zero = omega arith
least_from p from (suc turns) = cond_both (p from) from (least p (suc from) turns) (λ x. from ≤ x) (λ e. omega arith)
    (λ e. let ih : suc from ≤ least p (suc from) turns = least_from p (suc from) turns in omega arith)

-- it is at most each that passes
pub least_le : (p : ℕ → Bool) (from turns m : ℕ) → from ≤ m → p m ≡ true → least p from turns ≤ m
least_le p from zero m l e = l
least_le p from (suc turns) m l e = cond_both (p from) from (least p (suc from) turns) (λ x. x ≤ m) (λ _. l)
    (λ q'. least_le p (suc from) turns m
    (let ne : from ≢ m = λ q. both_ways (p from) q' (ap p q ∙ e) in omega arith) e)

-- and it passes, if it was found within the turns
pub least_passes : (p : ℕ → Bool) (from turns : ℕ) → least p from turns < from + turns → p (least p from turns) ≡ true
least_passes p from zero l = absurd (omega arith)
least_passes p from (suc turns) l = elim (cases_Bool (p from)) [
  | inl y ↦ subst (λ (x : ℕ). p x ≡ true) (sym (cond-true (p from) from (least p (suc from) turns) y)) y
  | inr q ↦
      let e : cond (p from) from (least p (suc from) turns) ≡ least p (suc from) turns = cond-false (p from) from (least p (suc from) turns) q in
      subst (λ (x : ℕ). p x ≡ true) (sym e) (least_passes p (suc from) turns (omega arith))
]

pub least_below_fails : (p : ℕ → Bool) (from turns k : ℕ) → from ≤ k → k < least p from turns → p k ≡ false
least_below_fails p from turns k l h = false_from_ne_true (p k) (λ e. let m : least p from turns ≤ k = least_le p from turns k l e in absurd (omega arith))

pub least_same : (p q : ℕ → Bool) (from turns : ℕ) → ((k : ℕ) → p k ≡ q k) → least p from turns ≡ least q from turns
least_same p q from zero h = refl
least_same p q from (suc turns) h = rw (h from) (ap (λ x. cond (q from) from x) (least_same p q (suc from) turns h))

-- where more pass, the least is no later
pub least_more : (p q : ℕ → Bool) (from turns : ℕ) → ((k : ℕ) → p k ≡ true → q k ≡ true) → least q from turns ≤ least p from turns
least_more p q from zero h = omega arith
least_more p q from (suc turns) h = elim (cases_Bool (p from)) [
  | inl y ↦
      let a : least p from (suc turns) ≡ from = cond-true (p from) from (least p (suc from) turns) y in
      let b : least q from (suc turns) ≡ from = cond-true (q from) from (least q (suc from) turns) (h from y) in
      omega arith
  | inr f ↦
      let a : least p from (suc turns) ≡ least p (suc from) turns = cond-false (p from) from (least p (suc from) turns) f in
      let ih : least q (suc from) turns ≤ least p (suc from) turns = least_more p q (suc from) turns h in
      let low : suc from ≤ least p (suc from) turns = least_from p (suc from) turns in
      elim (cases_Bool (q from)) [
        | inl y ↦ let b : least q from (suc turns) ≡ from = cond-true (q from) from (least q (suc from) turns) y in omega arith
        | inr g ↦ let b : least q from (suc turns) ≡ least q (suc from) turns = cond-false (q from) from (least q (suc from) turns) g in omega arith
      ]
]

-- where at most one passes, the count is at most 1
pub count_one : (p : ℕ → Bool) (n : ℕ) → ((i j : ℕ) → i < n → j < n → p i ≡ true → p j ≡ true → i ≡ j) → count_below p n ≤ 1
count_one p zero h = omega arith
count_one p (suc n) h = elim (cases_Bool (p n)) [
  | inl y ↦
      let none : count_below p n ≡ 0 = sum_zero (λ k. bit (p k)) n
      (λ k l. bit_at (p k) false (false_from_ne_true (p k) (λ e. let q : k ≡ n = h k n (omega arith) (omega arith) e y in absurd (omega arith)))) in
      let one : bit (p n) ≤ 1 = bit_le (p n) in
      omega arith
  | inr f ↦
      let ih : count_below p n ≤ 1 = count_one p n (λ i j li lj. h i j (omega arith) (omega arith)) in
      let zero' : bit (p n) ≡ 0 = bit_at (p n) false f in
      omega arith
]

-- addition round K
pub wrap : (K v j : ℕ) → v < K → j ≤ K → ((v + j < K) × ((v + j) % K ≡ v + j)) ⊎ ((K ≤ v + j) × ((v + j) % K + K ≡ v + j))
wrap K v j lv lj = elim (cases_lt (v + j) K) [
  | inl l ↦ inl (l, mod-eq_of_lt l)
  | inr g ↦
      let a : (v + j) % K ≡ (v + j - K) % K = mod-eq-sub-mod g in
      let b : (v + j - K) % K ≡ v + j - K = mod-eq_of_lt (omega arith) in
      inr (g, omega arith)
]

pub wrap_injective : (K v i j : ℕ) → v < K → i < K → j < K → (v + i) % K ≡ (v + j) % K → i ≡ j
wrap_injective K v i j lv li lj e = elim (wrap K v i lv (omega arith)) [
  | inl a ↦ elim (wrap K v j lv (omega arith)) [ inl b ↦ omega arith | inr b ↦ omega arith ]
  | inr a ↦ elim (wrap K v j lv (omega arith)) [ inl b ↦ omega arith | inr b ↦ omega arith ]
]
