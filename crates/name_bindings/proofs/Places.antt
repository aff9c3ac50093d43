-- What is at a place of a list after a write.
use Rattle.std.proofs.Common.{◌≡◌, ℕ, zero, suc, List, [], ◌∷◌, Option, None, Some, ◌⊎◌, inl, inr, refl, sym, ◌∙◌, ap, subst}
use Rattle.std.specs.Prelude.{◌≢◌, slice_get, slice_set}
use Rattle.std.proofs.lemmas.Bool.{cases_eq}
use Rattle.name_bindings.proofs.Found.{none_some}

pub get_set_same : {X : Type 0} (xs : List X) (i : ℕ) (x y : X) → slice_get xs i ≡ Some y → slice_get (slice_set xs i x) i ≡ Some x
get_set_same [] i x y e = absurd (none_some y e)
get_set_same (z ∷ xs) zero x y e = refl
get_set_same (z ∷ xs) (suc i) x y e = get_set_same xs i x y e

pub get_set_other : {X : Type 0} (xs : List X) (i j : ℕ) (x : X) → j ≢ i → slice_get (slice_set xs i x) j ≡ slice_get xs j
get_set_other [] i j x n = refl
get_set_other (z ∷ xs) zero zero x n = absurd (n refl)
get_set_other (z ∷ xs) zero (suc j) x n = refl
get_set_other (z ∷ xs) (suc i) zero x n = refl
get_set_other (z ∷ xs) (suc i) (suc j) x n = get_set_other xs i j x (λ e. n (ap suc e))

-- what is at a place after a write: what was written, or what was there
pub get_set : {X : Type 0} (xs : List X) (i j : ℕ) (x y z : X) → slice_get xs i ≡ Some y → slice_get (slice_set xs i x) j ≡ Some z →
    ((j ≡ i) × (z ≡ x)) ⊎ ((j ≢ i) × (slice_get xs j ≡ Some z))
get_set {X = X} xs i j x y z e f = elim (cases_eq j i) [
  | inl q ↦
      let g : slice_get (slice_set xs i x) j ≡ Some x = subst (λ (k : ℕ). slice_get (slice_set xs i x) k ≡ Some x) (sym q) (get_set_same xs i x y e) in
      let h : ◌≡◌ {A = Option X} (Some z) (Some x) = sym f ∙ g in
      inl (q, cc)
  | inr n ↦ inr (n, sym (get_set_other xs i j x n) ∙ f)
]
