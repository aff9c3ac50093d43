-- What is found after a change of one ring's name.
use Rattle.std.proofs.Common.{◌≡◌, ℕ, zero, suc, Bool, true, false, List, [], ◌∷◌, ◌++◌, Option, None, Some, ◌⊎◌, inl, inr, refl, sym, ◌∙◌, ap, subst, cond}
use Rattle.std.specs.Prelude.{if◌then◌else◌, option_map, slice_get, slice_set}
use Rattle.std.specs.Str.{bytes_eq}
use Rattle.std.proofs.lemmas.Bool.{both_ways, cases_Bool}
use Rattle.name_bindings.proofs.Places.{get_set_same, get_set}
use Rattle.name_bindings.proofs.Found.{same_name, own_name, some_same, none_some, unlike, OnlyAt, found_there, found_nowhere}
use Rattle.name_bindings.specs.Bindings.{Bound, found, further}

-- ---- what is found after a change

abbrev IsNot : List ℕ → Option Bound → Type 0
IsNot y None = Unit {0}
IsNot y (Some b) = bytes_eq y b.name ≡ false

pub pass : (y : List ℕ) (o : Option Bound) (os : List (Option Bound)) → IsNot y o → found y (o ∷ os) ≡ further (found y os)
pass y None os n = refl
pass y (Some b) os n = ap (λ (q : Bool). if q then Some (zero, b) else further (found y os)) n

pub same_on : (y : List ℕ) (o : Option Bound) (os rest : List (Option Bound)) → found y os ≡ found y rest → found y (o ∷ os) ≡ found y (o ∷ rest)
same_on y None os rest e = ap (λ (f : Option (ℕ × Bound)). further f) e
same_on y (Some b) os rest e = ap (λ (f : Option (ℕ × Bound)). if bytes_eq y b.name then Some (zero, b) else further f) e

found_other : (y : List ℕ) (os : List (Option Bound)) (i : ℕ) (w o : Option Bound) → slice_get os i ≡ Some w → IsNot y w → IsNot y o → found y (slice_set os i o) ≡ found y os
found_other y [] i w o e n m = absurd (none_some w e)
found_other y (v ∷ os) zero w o e n m = pass y o os m ∙ sym (pass y v os (subst (λ (x : Option Bound). IsNot y x) (sym (some_same v w e)) n))
found_other y (v ∷ os) (suc i) w o e n m = same_on y v (slice_set os i o) os (found_other y os i w o e n m)

pub differs : (x y : List ℕ) → bytes_eq x y ≡ false → bytes_eq y x ≡ false
differs x y e = by (cases_Bool (bytes_eq y x))
  where
    by : (bytes_eq y x ≡ true) ⊎ (bytes_eq y x ≡ false) → bytes_eq y x ≡ false
    by (inl p) = absurd (both_ways (bytes_eq x y) e (own_name x y (sym (same_name y x p))))
    by (inr p) = p

abbrev pub ring_in : Option (ℕ × Bound) → Option ℕ
ring_in o = option_map (λ (p : ℕ × Bound). p.0) o

only_bound : (os : List (Option Bound)) (i : ℕ) (b : Bound) → slice_get os i ≡ Some None → found b.name os ≡ None → OnlyAt (slice_set os i (Some b)) i b
only_bound os i b e none j d f same = elim (get_set os i j (Some b) None (Some d) e f) [
  | inl p ↦ p.0
  | inr p ↦ absurd (unlike b.name os j d none p.1 same)
]

pub found_bound : (os : List (Option Bound)) (i : ℕ) (b : Bound) (y : List ℕ) → slice_get os i ≡ Some None → found b.name os ≡ None → ring_in (found y (slice_set os i (Some b))) ≡ cond (bytes_eq b.name y) (Some i) (ring_in (found y os))
found_bound os i b y e none = by (bytes_eq b.name y) refl
  where
    by : (q : Bool) → bytes_eq b.name y ≡ q → ring_in (found y (slice_set os i (Some b))) ≡ cond q (Some i) (ring_in (found y os))
    by true q = ap ring_in (found_there y (slice_set os i (Some b)) i b (get_set_same os i (Some b) None e) (sym (same_name b.name y q)) (only_bound os i b e none))
    by false q = ap ring_in (found_other y os i None (Some b) e tt (differs b.name y q))

pub found_forgot : (os : List (Option Bound)) (i : ℕ) (b : Bound) (y : List ℕ) → slice_get os i ≡ Some (Some b) → OnlyAt os i b → ring_in (found y (slice_set os i None)) ≡ cond (bytes_eq b.name y) None (ring_in (found y os))
found_forgot os i b y e only = by (bytes_eq b.name y) refl
  where
    by : (q : Bool) → bytes_eq b.name y ≡ q → ring_in (found y (slice_set os i None)) ≡ cond q None (ring_in (found y os))
    by true q = ap ring_in (found_nowhere y (slice_set os i None) (λ j d f same. elim (get_set os i j None (Some b) (Some d) e f) [
      | inl p ↦ none_some d (sym p.1)
      | inr p ↦ p.0 (only j d p.1 (same ∙ sym (same_name b.name y q)))
    ]))
    by false q = ap ring_in (found_other y os i (Some b) None e (differs b.name y q) tt)

pub found_added : (y : List ℕ) (os : List (Option Bound)) → found y (os ++ None ∷ []) ≡ found y os
found_added y [] = refl
found_added y (o ∷ os) = same_on y o (os ++ None ∷ []) os (found_added y os)
