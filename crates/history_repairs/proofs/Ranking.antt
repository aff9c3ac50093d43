-- Numbers in rising order are those of their ranks.
use Rattle.std.proofs.Common.{◌≡◌, ℕ, zero, suc, ◌+◌, ◌<◌, ◌≤◌, Bool, true, false, cond, List, [], ◌∷◌, length, get_or, refl, sym, ap, ◌∙◌, inl, inr, arith}
use Rattle.std.specs.Prelude.{nat_le, nat_lt, sum, count_by}
use Rattle.std.specs.List.Sorted.{IsPermutation, IsNonDecreasing}
use Rattle.std.proofs.lemmas.Bool.{cases_Bool}
use Rattle.std.proofs.lemmas.Bool.Decides.{nat_tests}
use Rattle.std.proofs.lemmas.List.Sums.{sum_by-cons, get_or-le-sum_by}
use Rattle.std.proofs.lemmas.List.Sorted.{sum_by-IsPermutation}
use Rattle.ring_model.specs.Numbers.{least}
use Rattle.ring_model.proofs.Below.{least_le, least_passes}
use Rattle.history_repairs.specs.Ranks.{at_most, ranked}

count_yes : (p : ℕ → Bool) (x : ℕ) (xs : List ℕ) → p x ≡ true → count_by p (x ∷ xs) ≡ 1 + count_by p xs
count_yes p x xs e = sum_by-cons (λ y. cond (p y) 1 0) x xs ∙ ap (λ (b : Bool). cond {A = ℕ} b 1 0 + count_by p xs) e

count_no : (p : ℕ → Bool) (x : ℕ) (xs : List ℕ) → p x ≡ false → count_by p (x ∷ xs) ≡ 0 + count_by p xs
count_no p x xs e = sum_by-cons (λ y. cond (p y) 1 0) x xs ∙ ap (λ (b : Bool). cond {A = ℕ} b 1 0 + count_by p xs) e

-- if the first j numbers pass, at least j do
many_pass : (p : ℕ → Bool) (xs : List ℕ) (j : ℕ) → j ≤ length xs → ((k : ℕ) → k < j → p (get_or xs k 0) ≡ true) → j ≤ count_by p xs
many_pass p xs zero l h = omega arith
many_pass p [] (suc j) l h = absurd (omega arith)
many_pass p (x ∷ xs) (suc j) l h =
    let rest : j ≤ count_by p xs = many_pass p xs j (omega arith) (λ k lt. h (suc k) (omega arith)) in
    let first : p x ≡ true = h 0 (omega arith) in
    let both = count_yes p x xs first in
    omega arith

-- if those from place i on fail, at most i pass
few_pass : (p : ℕ → Bool) (xs : List ℕ) (i : ℕ) → ((k : ℕ) → i ≤ k → k < length xs → p (get_or xs k 0) ≡ false) → count_by p xs ≤ i
few_pass p [] i h = omega arith
few_pass p (x ∷ xs) zero h =
    let rest : count_by p xs ≤ 0 = few_pass p xs 0 (λ k l lt. h (suc k) (omega arith) (omega arith)) in
    let first : p x ≡ false = h 0 (omega arith) (omega arith) in
    let both = count_no p x xs first in
    omega arith
few_pass p (x ∷ xs) (suc i) h =
    let rest : count_by p xs ≤ i = few_pass p xs i (λ k l lt. h (suc k) (omega arith) (omega arith)) in
    elim (cases_Bool (p x)) [
      | inl y ↦ let both = count_yes p x xs y in omega arith
      | inr n ↦ let both = count_no p x xs n in omega arith
    ]

-- the least number that passes, where it is known
least_is : (p : ℕ → Bool) (turns m : ℕ) → m < turns → p m ≡ true → ((v : ℕ) → v < m → p v ≡ false) → m ≡ least p 0 turns
least_is p turns m lt passes fails =
    let low : least p 0 turns ≤ m = least_le p 0 turns m (omega arith) passes in
    elim (cases_Bool (nat_lt (least p 0 turns) m)) [
      | inl y ↦
          let less : least p 0 turns < m = grind (arith, nat_tests) in
          let yes : p (least p 0 turns) ≡ true = least_passes p 0 turns (omega arith) in
          let no : p (least p 0 turns) ≡ false = fails (least p 0 turns) less in
          cc
      | inr n ↦ let more : m ≤ least p 0 turns = grind (arith, nat_tests) in omega arith
    ]

-- at a place of the numbers in rising order is the one of the rank after that place
pub ranked_is : (xs ys : List ℕ) (i : ℕ) → IsPermutation xs ys → IsNonDecreasing ys → i < length ys → get_or ys i 0 ≡ ranked xs (suc i)
ranked_is xs ys i same up lt =
    let m = get_or ys i 0 in
    let counts : (v : ℕ) → at_most ys v ≡ at_most xs v = λ v. sum_by-IsPermutation (λ x. cond (nat_le x v) 1 0) xs ys same in
    let enough : suc i ≤ at_most ys m = many_pass (λ x. nat_le x m) ys (suc i) (omega arith)
    (λ k l. let le : get_or ys k 0 ≤ m = up k i 0 (omega arith) lt in grind (arith, nat_tests)) in
    let few : (v : ℕ) → v < m → at_most ys v ≤ i = λ v less. few_pass (λ x. nat_le x v) ys i
    (λ k l lk. let le : m ≤ get_or ys k 0 = up i k 0 l lk in grind (arith, nat_tests)) in
    let total : sum ys ≡ sum xs = sum_by-IsPermutation (λ x. x) xs ys same in
    let within : m ≤ sum ys = get_or-le-sum_by (λ x. x) ys i 0 lt in
    least_is (λ v. nat_le (suc i) (at_most xs v)) (suc (sum xs)) m (omega arith)
    (let e = counts m in let le : suc i ≤ at_most xs m = omega arith in grind (arith, nat_tests))
    (λ v less. let e = counts v in let f = few v less in let le : at_most xs v < suc i = omega arith in grind (arith, nat_tests))
