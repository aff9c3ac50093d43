-- A sum over a list that a loop adds up, which stops at the greatest number of 64 bits.
use Rattle.std.proofs.Common.{◌≡◌, ℕ, ◌+◌, ◌<◌, ◌≤◌, List, [], length, drop, get_or, map, sym, ap, ◌∙◌, arith}
use Rattle.std.specs.List.{sum_by}
use Rattle.std.proofs.lemmas.List.{drop_more, drop_all, length-map}
use Rattle.std.proofs.lemmas.List.Sums.{sum_by-cons}
use Rattle.std.proofs.Math.ListN.{get_or-map}
use Rattle.segment_files.specs.Sums.{capped}

capped_once : (a x r : ℕ) → capped (capped (a + x) + r) ≡ capped (a + (x + r))
capped_once a x r = omega arith

-- what was added up so far, and the rest
abbrev pub AddsUp : {X : Type 0} → (X → ℕ) → List X → ℕ → ℕ → Type 0
AddsUp f xs i s = (s ≡ capped s) × (capped (s + sum_by f (drop i xs)) ≡ capped (sum_by f xs))

module _ {Y X : Type 0} (of : Y → X) (f : X → ℕ) (ys : List Y) where
  pub adds_more : (i s : ℕ) (y : Y) (n : ℕ) → i < length ys → y ≡ get_or ys i y → n ≡ f (of y) → AddsUp f (map of ys) i s → AddsUp f (map of ys) (i + 1) (capped (s + n))
  adds_more i s y n lt is e so =
      let many = length-map ys of in
      let within : i < length (map of ys) = omega (arith, many, lt) in
      let there : get_or (map of ys) i (of y) ≡ of y = get_or-map of ys i y ∙ ap of (sym is) in
      let next : sum_by f (drop i (map of ys)) ≡ n + sum_by f (drop (i + 1) (map of ys)) =
      ap (sum_by f) (drop_more (map of ys) i (of y) within) ∙ sum_by-cons f (get_or (map of ys) i (of y)) (drop (i + 1) (map of ys))
      ∙ ap (λ (m : ℕ). m + sum_by f (drop (i + 1) (map of ys))) (ap f there ∙ sym e) in (
        omega arith,
        capped_once s n (sum_by f (drop (i + 1) (map of ys))) ∙ ap (λ (m : ℕ). capped (s + m)) (sym next) ∙ so.1,
      )

  pub adds_all : (i s : ℕ) → length ys ≤ i → AddsUp f (map of ys) i s → s ≡ capped (sum_by f (map of ys))
  adds_all i s le so =
      let many = length-map ys of in
      let none : drop i (map of ys) ≡ [] = drop_all i (map of ys) (omega (arith, many, le)) in
      let last : capped (s + sum_by f []) ≡ capped (sum_by f (map of ys)) = ap (λ (u : List X). capped (s + sum_by f u)) (sym none) ∙ so.1 in
      so.0 ∙ nothing_more s ∙ last
    where
      nothing_more : (n : ℕ) → capped n ≡ capped (n + sum_by f [])
      nothing_more n = omega arith
