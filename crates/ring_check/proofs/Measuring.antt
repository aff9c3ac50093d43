-- The plain loops over a ring's values.
use Rattle.std.proofs.Common.{◌≡◌, ℕ, zero, suc, ◌+◌, ◌-◌, ◌<◌, ◌≤◌, ◌≢◌, Bool, true, false, List, length, get_or, refl, sym, ◌∙◌, ap, arith}
use Rattle.std.proofs.lemmas.Bool.{both_ways, false_from_ne_true}
use Rattle.ring_model.specs.Numbers.{sum_below, bit, count_below}
use Rattle.ring_model.specs.Ring.{is_privileged, first_privileged, weight_at, first_value_is_prefix}
use Rattle.ring_model.proofs.Below.{least_le, least_passes}
use Rattle.ring_model.proofs.Settled.{first_is}
use Rattle.ring_model.proofs.Weight.{pull_true, pull_false}
use Rattle.ring_model.proofs.Lead.{front_from, front_true}

-- a running count and a running sum
pub count_more : (p : ℕ → Bool) (i : ℕ) → count_below p (i + 1) ≡ count_below p i + bit (p i)
count_more p i = let e : i + 1 ≡ suc i = omega arith in ap (count_below p) e

pub sum_more : (f : ℕ → ℕ) (i : ℕ) → sum_below f (i + 1) ≡ sum_below f i + f i
sum_more f i = let e : i + 1 ≡ suc i = omega arith in ap (sum_below f) e

-- the weight of a machine past machine 0
pub weight_on : (s : List ℕ) (i : ℕ) → 1 ≤ i → is_privileged s i ≡ true → weight_at s i ≡ length s - i
weight_on s zero l e = absurd (omega arith)
weight_on s (suc i) l e = pull_true s i e

pub weight_off : (s : List ℕ) (i : ℕ) → is_privileged s i ≡ false → weight_at s i ≡ 0
weight_off s zero e = refl
weight_off s (suc i) e = pull_false s i e

-- the first privileged machine
pub first_at : (s : List ℕ) (i : ℕ) → i < length s → is_privileged s i ≡ true → ((k : ℕ) → k < i → is_privileged s k ≡ false) → i ≡ first_privileged s
first_at s i l e h =
    let le : first_privileged s ≤ i = least_le (is_privileged s) 0 (length s) i (omega arith) e in
    let on : is_privileged s (first_privileged s) ≡ true = least_passes (is_privileged s) 0 (length s) (omega arith) in
    let ge : first_privileged s < i → ⊥ = λ q. both_ways (is_privileged s (first_privileged s)) (h (first_privileged s) q) on in
    omega arith

pub some_first : (s : List ℕ) → 1 ≤ length s → ((k : ℕ) → k < length s → is_privileged s k ≡ false) → ⊥
some_first s one h = let f = first_is s one in both_ways (is_privileged s (first_privileged s)) (h (first_privileged s) f.0) f.1

-- the prefix with the value of machine 0
pub prefix_past : (s : List ℕ) → ((k : ℕ) → suc k < length s → get_or s (suc k) 0 ≡ get_or s 0 0 → get_or s k 0 ≡ get_or s 0 0) → true ≡ first_value_is_prefix s
prefix_past s h = sym (front_from s h)

pub prefix_not : (s : List ℕ) (i : ℕ) → 1 ≤ i → i < length s → get_or s (i - 1) 0 ≢ get_or s 0 0 → get_or s i 0 ≡ get_or s 0 0 → false ≡ first_value_is_prefix s
prefix_not s zero o l ne e = absurd (omega arith)
prefix_not s (suc i) o l ne e =
    sym (false_from_ne_true (first_value_is_prefix s) (λ q. ne (let at : suc i - 1 ≡ i = omega arith in ap (λ x. get_or s x 0) at ∙ front_true s q i l e)))
