-- What repairs took, from their passes in rising order.
use Rattle.std.specs.Prelude.{◌==◌}
use Rattle.std.proofs.Common.{◌≡◌, ℕ, zero, suc, false, ◌+◌, ◌-◌, ◌/◌, ◌<◌, List, [], ◌∷◌, length, get_or, Some, refl, sym, ap, ◌∙◌, arith}
use Rattle.std.specs.List.Sorted.{IsPermutation, IsNonDecreasing}
use Rattle.std.proofs.lemmas.List.{length-map}
use Rattle.std.proofs.lemmas.List.Sorted.{length_permutation}
use Rattle.history_repairs.specs.declared.repairs.Repair.{Repair}
use Rattle.history_repairs.specs.Ranks.{ranked, median}
use Rattle.history_repairs.specs.Lines.{passes_of, most_privileged, spread_if}
use Rattle.history_repairs.proofs.Ranking.{ranked_is}

-- of a place that is there the default has no part
pub any_default : (ys : List ℕ) (i d e : ℕ) → i < length ys → get_or ys i d ≡ get_or ys i e
any_default [] i d e lt = absurd (omega arith)
any_default (y ∷ ys) zero d e lt = refl
any_default (y ∷ ys) (suc i) d e lt = any_default ys i d e (omega arith)

-- what the test of emptiness says
pub nonempty : (n : ℕ) → (n == 0) ≡ false → 0 < n
nonempty zero e = let bad : ⊥ = cc in absurd bad
nonempty (suc n) e = omega arith

half : (m : ℕ) → suc (m / 2) ≡ (m + 1 + 1) / 2
half m = omega arith

pub spread_is : (rs : List Repair) (ys : List ℕ) (last low mid high many : ℕ) → 0 < length rs → last + 1 ≡ length ys → IsPermutation (passes_of rs) ys → IsNonDecreasing ys →
    low ≡ get_or ys 0 0 → mid ≡ get_or ys (last / 2) 0 → high ≡ get_or ys last 0 → many ≡ most_privileged rs →
    Some (record { least = low; median = mid; greatest = high; privileged = many }) ≡ spread_if rs
spread_is [] ys last low mid high many some n same up a b c d = absurd (omega arith)
spread_is (r ∷ rs) ys last low mid high many some n same up a b c d =
    let xs = passes_of (r ∷ rs) in
    let long : length ys ≡ length xs = length_permutation xs ys same in
    let all : length xs ≡ length (r ∷ rs) = length-map (r ∷ rs) (λ (x : Repair). x.passes) in
    let mid_within : last / 2 < length ys = omega arith in
    let last_within : last < length ys = omega arith in
    let first_within : 0 < length ys = omega arith in
    let low_is : low ≡ ranked xs 1 = a ∙ ranked_is xs ys 0 same up first_within in
    let rank : suc (last / 2) ≡ (length xs + 1) / 2 = half last ∙ ap (λ (m : ℕ). (m + 1) / 2) (n ∙ long) in
    let mid_is : mid ≡ median xs = b ∙ ranked_is xs ys (last / 2) same up mid_within ∙ ap (ranked xs) rank in
    let top : suc last ≡ length (r ∷ rs) = omega arith in
    let high_is : high ≡ ranked xs (length (r ∷ rs)) = c ∙ ranked_is xs ys last same up last_within ∙ ap (ranked xs) top in
    cc
