-- The numbered states are all, each once.
use Rattle.std.proofs.Common.{◌≡◌, ℕ, zero, suc, ◌+◌, ◌-◌, ◌*◌, ◌/◌, ◌%◌, ◌^◌, ◌<◌, ◌≤◌, List, [], ◌∷◌, length, get_or, refl, sym, ◌∙◌, ap, subst, inl, inr, arith}
use Rattle.std.proofs.lemmas.Bool.{cases_lt}
use Rattle.std.proofs.lemmas.Nat.{mul-le, mod-mul-add, div-mul-add, div-add-mod'}
use Rattle.std.proofs.lemmas.Grind.{pow_more}
use Rattle.std.proofs.Math.Nat.{pow-zero}
use Rattle.ring_state.specs.Sizes.{Size, IsSize}
use Rattle.ring_repairs.specs.Starts.{digits, numbered, states}
use Rattle.ring_repairs.specs.TrialLaws.{AllStatesOnce}

-- each is below k
abbrev AreUnder : ℕ → List ℕ → Type 0
AreUnder k xs = (i : ℕ) → i < length xs → get_or xs i 0 < k

-- the number whose digits these are
abbrev number_of : ℕ → List ℕ → ℕ
number_of k [] = 0
number_of k (d ∷ ds) = number_of k ds * k + d

digits_of : (k : ℕ) (ds : List ℕ) → AreUnder k ds → digits k (number_of k ds) (length ds) ≡ ds
digits_of k [] all = refl
digits_of k (d ∷ ds) all =
    let m : ℕ = number_of k ds in
    let under : d < k = all 0 (omega arith) in
    ap (λ (x : ℕ). x ∷ digits k ((m * k + d) / k) (length ds)) (mod-mul-add m k d under)
    ∙ ap (λ (x : ℕ). d ∷ digits k x (length ds)) (div-mul-add m k d under)
    ∙ ap (λ (x : List ℕ). d ∷ x) (digits_of k ds (λ j lj. all (suc j) (omega arith)))

power_next : (k n : ℕ) → k ^ suc n ≡ k ^ n * k
power_next k n = let next : suc n ≡ n + 1 = omega arith in ap (λ (x : ℕ). k ^ x) next ∙ pow_more k n

number_small : (k : ℕ) (ds : List ℕ) → 0 < k → AreUnder k ds → number_of k ds < k ^ length ds
number_small k [] some all = let one : k ^ 0 ≡ 1 = pow-zero k in omega arith
number_small k (d ∷ ds) some all =
    let m : ℕ = number_of k ds in
    let under : d < k = all 0 (omega arith) in
    let ih : m < k ^ length ds = number_small k ds some (λ j lj. all (suc j) (omega arith)) in
    let more : (m + 1) * k ≤ k ^ length ds * k = mul-le (m + 1) k (k ^ length ds) k (omega arith) (omega arith) in
    let power = power_next k (length ds) in
    omega arith

quotient_small : (k n a : ℕ) → 0 < k → a < k ^ suc n → a / k < k ^ n
quotient_small k n a some l = elim (cases_lt (a / k) (k ^ n)) [
  | inl less ↦ less
  | inr more ↦
      let product : k ^ n * k ≤ a / k * k = mul-le (k ^ n) k (a / k) k more (omega arith) in
      let whole = div-add-mod' a k in
      let power = power_next k n in
      absurd (omega arith)
]

none_below : (k a : ℕ) → a < k ^ 0 → a ≡ 0
none_below k a l = let one : k ^ 0 ≡ 1 = pow-zero k in omega arith

same_digits : (k n a b : ℕ) → 0 < k → a < k ^ n → b < k ^ n → digits k a n ≡ digits k b n → a ≡ b
same_digits k zero a b some la lb e = none_below k a la ∙ sym (none_below k b lb)
same_digits k (suc n) a b some la lb e =
    let e' : (a % k ∷ digits k (a / k) n) ≡ (b % k ∷ digits k (b / k) n) = e in
    let head : a % k ≡ b % k = cc e' in
    let tail : digits k (a / k) n ≡ digits k (b / k) n = cc e' in
    let quotient : a / k ≡ b / k = same_digits k n (a / k) (b / k) some (quotient_small k n a some la) (quotient_small k n b some lb) tail in
    sym (div-add-mod' a k) ∙ ap (λ (x : ℕ). x * k + a % k) quotient ∙ ap (λ (x : ℕ). b / k * k + x) head ∙ div-add-mod' b k

same_tail : (x y : ℕ) (xs ys : List ℕ) → (x ∷ xs) ≡ (y ∷ ys) → xs ≡ ys
same_tail x y xs ys e = cc e

pub all_states_once : AllStatesOnce
unfolding states
all_states_once size [] is long under none = let two = is.machines in absurd (omega arith)
all_states_once size (x ∷ ds) is long under none =
    let two = is.machines in
    let values = is.values in
    let some : 0 < size.k = omega arith in
    let count : length ds ≡ size.n - 1 = omega arith in
    let all : AreUnder size.k ds = λ j lj. under (suc j) (omega arith) in
    let number : ℕ = number_of size.k ds in
    let small : number < size.k ^ (size.n - 1) = subst (λ (c : ℕ). number < size.k ^ c) count (number_small size.k ds some all) in
    let of : digits size.k number (size.n - 1) ≡ ds = ap (digits size.k number) (sym count) ∙ digits_of size.k ds all in
    let none' : x ≡ 0 = none in (
      number,
      small,
      ap (λ (ys : List ℕ). 0 ∷ ys) of ∙ ap (λ (y : ℕ). y ∷ ds) (sym none'),
      λ other lo eo. same_digits size.k (size.n - 1) other number some lo small
          (same_tail 0 x (digits size.k other (size.n - 1)) ds eo ∙ sym of),
    )
