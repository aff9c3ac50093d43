-- Sums over the entries of a histogram.
use Rattle.std.proofs.Common.{◌≡◌, ℕ, zero, suc, ◌+◌, ◌-◌, ◌*◌, ◌<◌, ◌≤◌, List, [], ◌∷◌, length, get_or, refl, sym, ◌∙◌, ap, inl, inr, arith}
use Rattle.std.proofs.lemmas.Bool.{cases_lt}
use Rattle.std.proofs.lemmas.Nat.{mul-le}
use Rattle.std.proofs.lemmas.List.{get_or-set_same, get_or-set_other, length-set, length-replicate}
use Rattle.std.proofs.Math.ListN.{set, replicate}
use Rattle.std.proofs.Math.Nat.{mul-add}
use Rattle.ring_model.specs.Numbers.{sum_below}
use Rattle.ring_model.proofs.Below.{sum_but_one, sum_zero, sum_one_le}
use Rattle.ring_repairs.specs.Limits.{trial_limit, number_limit}
use Rattle.ring_repairs.specs.Histograms.{counted, counted_below, summed}

-- the entry of a number
abbrev pub entry : List ℕ → ℕ → ℕ
entry h v = get_or h v 0

-- fewer entries sum up to no more
pub sum_prefix : (f : ℕ → ℕ) (a n : ℕ) → a ≤ n → sum_below f a ≤ sum_below f n
sum_prefix f a zero l = let is : a ≡ 0 = omega arith in let e : sum_below f a ≡ sum_below f 0 = ap (sum_below f) is in omega arith
sum_prefix f a (suc n) l = elim (cases_lt n a) [
  | inl above ↦ let is : a ≡ suc n = omega arith in let e : sum_below f a ≡ sum_below f (suc n) = ap (sum_below f) is in omega arith
  | inr under ↦ let ih : sum_below f a ≤ sum_below f n = sum_prefix f a n (omega arith) in omega arith
]

-- where no entry is above 0 nothing was counted
pub counted_none : (h : List ℕ) → ((v : ℕ) → v < length h → entry h v ≡ 0) → counted h ≡ 0
unfolding counted
counted_none h all = sum_zero (entry h) (length h) all

pub counted_is : (h : List ℕ) → counted h ≡ sum_below (entry h) (length h)
unfolding counted
counted_is h = refl

pub counted_below_is : (h : List ℕ) (v : ℕ) → counted_below h v ≡ sum_below (entry h) v
unfolding counted_below
counted_below_is h v = refl

pub summed_is : (h : List ℕ) → summed h ≡ sum_below (λ v. v * entry h v) (length h)
unfolding summed
summed_is h = refl

-- numbers below m, summed up, are below m times as many
summed_le : (f : ℕ → ℕ) (m n : ℕ) → n ≤ m → sum_below (λ v. v * f v) n ≤ m * sum_below f n
summed_le f m zero l = omega arith
summed_le f m (suc n) l =
    let ih : sum_below (λ v. v * f v) n ≤ m * sum_below f n = summed_le f m n (omega arith) in
    let top : n * f n ≤ m * f n = mul-le n (f n) m (f n) (omega arith) (omega arith) in
    let split : m * (sum_below f n + f n) ≡ m * sum_below f n + m * f n = mul-add m (sum_below f n) (f n) in
    omega arith

-- within the limits they fit
pub summed_fits : (h : List ℕ) (v : ℕ) → v < length h → counted h ≤ trial_limit → length h ≤ number_limit →
    sum_below (λ v. v * entry h v) v + v * entry h v ≤ number_limit * trial_limit
summed_fits h v l few short =
    let all : sum_below (λ v. v * entry h v) (suc v) ≤ number_limit * sum_below (entry h) (suc v) = summed_le (entry h) number_limit (suc v) (omega arith) in
    let part : sum_below (entry h) (suc v) ≤ sum_below (entry h) (length h) = sum_prefix (entry h) (suc v) (length h) (omega arith) in
    let total = counted_is h in
    omega arith

pub entry_fits : (h : List ℕ) (v : ℕ) → v < length h → counted h ≤ trial_limit → entry h v ≤ trial_limit
entry_fits h v l few = let one = sum_one_le (entry h) v (length h) l in let total = counted_is h in omega arith

-- a product of the search for a quantile
pub product_fits : (a b : ℕ) → a ≤ 1000 → b ≤ trial_limit → a * b ≤ 1000 * trial_limit
product_fits a b la lb = mul-le a b 1000 trial_limit la lb

-- the counts of one entry more
pub counted_more : (h : List ℕ) (v : ℕ) → v < length h → sum_below (entry h) (v + 1) ≡ sum_below (entry h) v + entry h v
counted_more h v l = let next : v + 1 ≡ suc v = omega arith in ap (sum_below (entry h)) next

pub counted_part : (h : List ℕ) (v : ℕ) → v < length h → sum_below (entry h) v + entry h v ≤ counted h
counted_part h v l =
    let part : sum_below (entry h) (suc v) ≤ sum_below (entry h) (length h) = sum_prefix (entry h) (suc v) (length h) (omega arith) in
    let total = counted_is h in
    omega arith

-- some number is the quantile, if anything was counted
pub quantile_there : (h : List ℕ) (part whole : ℕ) → part ≤ whole →
    ((j : ℕ) → j < length h → whole * counted_below h (j + 1) < part * counted h) → counted h ≡ 0
quantile_there h part whole le few = elim (cases_lt 0 (length h)) [
  | inl some ↦
      let all : length h - 1 + 1 ≡ length h = omega arith in
      let last : whole * counted_below h (length h - 1 + 1) < part * counted h = few (length h - 1) (omega arith) in
      let is : counted_below h (length h - 1 + 1) ≡ counted h = ap (counted_below h) all ∙ counted_below_is h (length h) ∙ sym (counted_is h) in
      let same : whole * counted_below h (length h - 1 + 1) ≡ whole * counted h = ap (λ (x : ℕ). whole * x) is in
      let more : part * counted h ≤ whole * counted h = mul-le part (counted h) whole (counted h) le (omega arith) in
      absurd (omega arith)
  | inr none ↦ counted_none h (λ v l. absurd (omega arith))
]

-- an entry that is written
pub counted_set : (h : List ℕ) (v x : ℕ) → v < length h → counted (set h v x) + entry h v ≡ counted h + x
counted_set h v x l =
    let long : length (set h v x) ≡ length h = length-set h v x in
    let here : entry (set h v x) v ≡ x = get_or-set_same h v x 0 l in
    let two : sum_below (entry (set h v x)) (length h) + entry h v ≡ sum_below (entry h) (length h) + entry (set h v x) v =
    sum_but_one (entry (set h v x)) (entry h) v (length h) l (λ k lk ne. get_or-set_other h v k x 0 ne) in
    let a = counted_is h in
    let b : counted (set h v x) ≡ sum_below (entry (set h v x)) (length h) = counted_is (set h v x) ∙ ap (sum_below (entry (set h v x))) long in
    omega arith

-- zeros
pub zero_at : (n v : ℕ) → entry (replicate {A = ℕ} n 0) v ≡ 0
zero_at zero v = refl
zero_at (suc n) zero = refl
zero_at (suc n) (suc v) = zero_at n v

pub zeros_long : (n : ℕ) → length (replicate {A = ℕ} n 0) ≡ n
zeros_long n = length-replicate {A = ℕ} n 0

pub summed_small : (h : List ℕ) → counted h ≤ trial_limit → length h ≤ number_limit → summed h ≤ number_limit * trial_limit
summed_small h few short =
    let all : sum_below (λ v. v * entry h v) (length h) ≤ number_limit * sum_below (entry h) (length h) = summed_le (entry h) number_limit (length h) short in
    let a = counted_is h in
    let b = summed_is h in
    omega arith

-- an entry within a list does not depend on the default past its end
pub entry_at : (h : List ℕ) (v d : ℕ) → v < length h → get_or h v d ≡ entry h v
entry_at [] v d l = absurd (omega arith)
entry_at (x ∷ xs) zero d l = refl
entry_at (x ∷ xs) (suc v) d l = entry_at xs v d (omega arith)

-- two entries
pub counted_two : (a b : ℕ) → counted (a ∷ b ∷ []) ≡ a + b
unfolding counted
counted_two a b = let is : 0 + a + b ≡ a + b = omega arith in is
