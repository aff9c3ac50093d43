-- Tables of names after a change.
use Rattle.std.proofs.Common.{◌≡◌, ℕ, ◌<◌, cond, List, [], ◌∷◌, ◌++◌, length, Option, None, Some, inl, inr, refl, sym, ◌∙◌, ap, subst, arith}
use Rattle.std.specs.Prelude.{slice_get, slice_set, slice_index_or, option_map}
use Rattle.std.specs.Str.{bytes_eq}
use Rattle.std.proofs.lemmas.List.{length-map}
use Rattle.std.proofs.lemmas.Option.{slice_get_within, slice_get_read, slice_get-map}
use Rattle.name_bindings.proofs.Places.{get_set}
use Rattle.name_bindings.specs.Bindings.{Bound, found, AreNamedOnce}
use Rattle.name_bindings.proofs.Found.{some_same, none_some, unlike, pushed}
use Rattle.name_bindings.proofs.Changed.{found_bound, found_forgot, found_added}
use Rattle.name_check.specs.declared.table.Binding.{Binding}
use Rattle.name_check.specs.Tables.{bound_of, bounds_of, IsTable}

pub once_bound : (os : List (Option Bound)) (i : ℕ) (b : Bound) → slice_get os i ≡ Some None → found b.name os ≡ None → AreNamedOnce os → AreNamedOnce (slice_set os i (Some b))
once_bound os i b entry none once j k d e f g same = elim (get_set os i j (Some b) None (Some d) entry f) [
  | inl p ↦ elim (get_set os i k (Some b) None (Some e) entry g) [
    | inl q ↦ p.0 ∙ sym q.0
    | inr q ↦ absurd (unlike b.name os k e none q.1 (sym same ∙ ap (λ (x : Bound). x.name) (some_same d b p.1)))
  ]
  | inr p ↦ elim (get_set os i k (Some b) None (Some e) entry g) [
    | inl q ↦ absurd (unlike b.name os j d none p.1 (same ∙ ap (λ (x : Bound). x.name) (some_same e b q.1)))
    | inr q ↦ once j k d e p.1 q.1 same
  ]
]

pub once_forgot : (os : List (Option Bound)) (i : ℕ) (was : Option Bound) → slice_get os i ≡ Some was → AreNamedOnce os → AreNamedOnce (slice_set os i None)
once_forgot os i was entry once j k d e f g same = elim (get_set os i j None was (Some d) entry f) [
  | inl p ↦ absurd (none_some d (sym p.1))
  | inr p ↦ elim (get_set os i k None was (Some e) entry g) [
    | inl q ↦ absurd (none_some e (sym q.1))
    | inr q ↦ once j k d e p.1 q.1 same
  ]
]

bound_before : (os : List (Option Bound)) (i : ℕ) (d : Bound) → slice_get (os ++ None ∷ []) i ≡ Some (Some d) → slice_get os i ≡ Some (Some d)
bound_before os i d e = elim (pushed os None i (Some d) e) [
  | inl p ↦ p
  | inr p ↦ absurd (none_some d (sym p.1))
]

pub once_added : (os : List (Option Bound)) → AreNamedOnce os → AreNamedOnce (os ++ None ∷ [])
once_added os once j k d e f g same = once j k d e (bound_before os j d f) (bound_before os k e g) same

-- a ring gets a name
pub bound_table : (os : List (Option Bound)) (look more : List ℕ → Option ℕ) (ring : ℕ) (key : List ℕ) (b : Bound) → IsTable os look → slice_get os ring ≡ Some None → key ≡ b.name → found key os ≡ None →
    ((y : List ℕ) → more y ≡ cond (bytes_eq key y) (Some ring) (look y)) → IsTable (slice_set os ring (Some b)) more
bound_table os look more ring key b t entry same unused new =
    let nobody : found b.name os ≡ None = subst (λ (x : List ℕ). found x os ≡ None) same unused in
    record {
      looks = λ y.
          subst (λ (x : List ℕ). more y ≡ cond (bytes_eq x y) (Some ring) (look y)) same (new y)
          ∙ ap (λ (o : Option ℕ). cond (bytes_eq b.name y) (Some ring) o) (t.looks y)
          ∙ sym (found_bound os ring b y entry nobody);
      once = once_bound os ring b entry nobody t.once;
    }

-- a ring loses its name
pub forgot_table : (os : List (Option Bound)) (look less : List ℕ → Option ℕ) (ring : ℕ) (b : Bound) → IsTable os look → slice_get os ring ≡ Some (Some b) →
    ((y : List ℕ) → less y ≡ cond (bytes_eq b.name y) None (look y)) → IsTable (slice_set os ring None) less
forgot_table os look less ring b t entry new = record {
  looks = λ y. new y ∙ ap (λ (o : Option ℕ). cond (bytes_eq b.name y) None o) (t.looks y) ∙ sym (found_forgot os ring b y entry (λ j d f same. t.once j ring d b f entry same));
  once = once_forgot os ring (Some b) entry t.once;
}

-- a ring more
pub freed_table : (os : List (Option Bound)) (look : List ℕ → Option ℕ) → IsTable os look → IsTable (os ++ None ∷ []) look
freed_table os look t = record {
  looks = λ y. t.looks y ∙ sym (ap (λ (o : Option (ℕ × Bound)). option_map (λ (p : ℕ × Bound). p.0) o) (found_added y os));
  once = once_added os t.once;
}

-- ---- the list of bindings

pub entry_within : (items : List (Option Binding)) (ring : ℕ) (o : Option Bound) → slice_get (bounds_of items) ring ≡ Some o → ring < length items
entry_within items ring o e =
    let len : length (bounds_of items) ≡ length items = length-map items (λ (x : Option Binding). option_map bound_of x) in
    let lt : ring < length (bounds_of items) = slice_get_within (bounds_of items) ring o e in
    omega arith

pub entry_read : (items : List (Option Binding)) (ring : ℕ) (x : Option Binding) → ring < length items → x ≡ slice_index_or items ring x → slice_get (bounds_of items) ring ≡ Some (option_map bound_of x)
entry_read items ring x lt e = slice_get-map (λ (o : Option Binding). option_map bound_of o) items ring ∙ ap (λ (o : Option (Option Binding)). option_map (λ (z : Option Binding). option_map bound_of z) o) (slice_get_read items (length items) ring x refl lt e)
