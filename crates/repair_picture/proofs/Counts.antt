-- Sums over a part of a histogram.
use Rattle.std.proofs.Common.{◌≡◌, ℕ, zero, suc, ◌+◌, ◌≤◌, List, [], ◌∷◌, length, get_or, refl, ap, arith}
use Rattle.ring_model.specs.Numbers.{sum_below}

-- past the end there is no entry
pub past : (h : List ℕ) (k : ℕ) → length h ≤ k → get_or h k 0 ≡ 0
past [] k l = refl
past (x ∷ xs) zero l = absurd (omega arith)
past (x ∷ xs) (suc k) l = past xs k (omega arith)

-- one more
pub part_more : (h : List ℕ) (from place : ℕ) →
    sum_below (λ j. get_or h (from + j) 0) (place + 1) ≡ sum_below (λ j. get_or h (from + j) 0) place + get_or h (from + place) 0
part_more h from place = let e : place + 1 ≡ suc place = omega arith in ap (sum_below (λ (j : ℕ). get_or h (from + j) 0)) e
