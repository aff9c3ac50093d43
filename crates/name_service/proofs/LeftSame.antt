-- A client that leaves all names: the clients that are granted one hear of it by the name that it had.
use Rattle.std.proofs.Common.{◌≡◌, ℕ, suc, Bool, true, false, List, [], ◌∷◌, ◌++◌, map, length, Option, None, Some, refl, sym, ◌∙◌, ap, subst, inl, inr}
use Rattle.std.specs.Prelude.{slice_get, slice_set, nat_lt, ◌||◌, is_some, if◌then◌else◌, option_map}
use Rattle.std.proofs.lemmas.Bool.{cases_eq, false≢true, or_right}
use Rattle.std.proofs.lemmas.Option.{slice_get-map}
use Rattle.held_locks.specs.declared.answers.Holder.{Holder}
use Rattle.held_locks.specs.declared.answers.Left.{Left}
use Rattle.held_locks.specs.Kept.{LockView}
use Rattle.held_locks.proofs.Standing.{get_set_other}
use Rattle.lock_names.specs.Names.{Bound, Said, Named, leave_each}
use Rattle.lock_names.specs.Kept.{NamedView, named_of, grant_said}
use Rattle.lock_names.specs.Leaves.{bound_or, told_left, name_left, names_left, said_left, IsLeftByName}
use Rattle.lock_names.proofs.Keeping.{fixed_after}
use Rattle.lock_names.proofs.LeftRings.{reports_apart}
use Rattle.lock_journal.specs.Due.{is_short_at, has_short_left}

-- ---- the names of the rings that are granted

-- of this ring nothing is reported but grants
abbrev IsGranted : ℕ → List Left → Type 0
IsGranted n left = (i : ℕ) (l : Left) → slice_get left i ≡ Some l → n ≡ l.lock → is_some l.granted ≡ true

one_same : (fixed n : ℕ) (os : List (Option Bound)) (l : Left) → (n ≡ l.lock → is_some l.granted ≡ true) → (q : Bool) → (nat_lt l.lock fixed || is_some l.granted) ≡ q →
    slice_get (if q then os else slice_set os l.lock None) n ≡ slice_get os n
one_same fixed n os l granted true e = refl
one_same fixed n os l granted false e = elim (cases_eq n l.lock) [
  | inl same ↦ absurd (false≢true (sym e ∙ or_right (nat_lt l.lock fixed) (is_some l.granted) (granted same)))
  | inr other ↦ get_set_other os l.lock n None other
]

left_same : (fixed n : ℕ) (os : List (Option Bound)) (left : List Left) → IsGranted n left → slice_get (names_left fixed os left) n ≡ slice_get os n
left_same fixed n os [] g = refl
left_same fixed n os (l ∷ left) g =
    left_same fixed n (name_left fixed os l) left (λ i m e. g (suc i) m e) ∙ one_same fixed n os l (g 0 l refl) (nat_lt l.lock fixed || is_some l.granted) refl

-- ---- what is said

said_one : (ps os : List (Option Bound)) (l : Left) (o : Option Holder) → l.granted ≡ o → (is_some l.granted ≡ true → slice_get ps l.lock ≡ slice_get os l.lock) → grant_said (bound_or (slice_get ps l.lock)).name o ≡ grant_said (bound_or (slice_get os l.lock)).name o
said_one ps os l None e same = refl
said_one ps os l (Some h) e same = ap (λ (b : Option (Option Bound)). grant_said (bound_or b).name (Some h)) (same (ap (λ (o : Option Holder). is_some o) e))

said_all : (ps os : List (Option Bound)) (left : List Left) → ((i : ℕ) (l : Left) → slice_get left i ≡ Some l → is_some l.granted ≡ true → slice_get ps l.lock ≡ slice_get os l.lock) → said_left ps left ≡ said_left os left
said_all ps os [] same = refl
said_all ps os (l ∷ left) same =
    ap (λ (x : List Said). x ++ said_left ps left) (said_one ps os l l.granted refl (same 0 l refl))
    ∙ ap (λ (x : List Said). grant_said (bound_or (slice_get os l.lock)).name l.granted ++ x) (said_all ps os left (λ i m e. same (suc i) m e))

-- ---- each ring is reported once

some_one : (x y : Left) → Some x ≡ Some y → x ≡ y
some_one x y e = cc

none_some : (x : Left) → ◌≡◌ {A = Option Left} None (Some x) → ⊥
none_some x e = cc

told_from : (os : List (Option Bound)) (o : Option Left) (l : Left) → option_map (told_left os) o ≡ Some l → (m : Left) × (o ≡ Some m) × (l.lock ≡ m.lock)
told_from os None l e = absurd (none_some l e)
told_from os (Some m) l e = (m, refl, ap (λ (x : Left). x.lock) (sym (some_one (told_left os m) l e)))

told_at : (os : List (Option Bound)) (raw : List Left) (i : ℕ) (l : Left) → slice_get (map (told_left os) raw) i ≡ Some l → (m : Left) × (slice_get raw i ≡ Some m) × (l.lock ≡ m.lock)
told_at os raw i l e = told_from os (slice_get raw i) l (sym (slice_get-map (told_left os) raw i) ∙ e)

abbrev AreApart : List Left → Type 0
AreApart left = (i j : ℕ) (l m : Left) → slice_get left i ≡ Some l → slice_get left j ≡ Some m → l.lock ≡ m.lock → i ≡ j

told_apart : (os : List (Option Bound)) (raw : List Left) → AreApart raw → AreApart (map (told_left os) raw)
told_apart os raw apart i j l m e f same =
    let a = told_at os raw i l e in
    let b = told_at os raw j m f in
    apart i j a.0 b.0 a.1 b.1 (sym a.2 ∙ same ∙ b.2)

granted_at : (left : List Left) (j : ℕ) (m : Left) → AreApart left → slice_get left j ≡ Some m → is_some m.granted ≡ true → IsGranted m.lock left
granted_at left j m apart f g i l e same =
    let at : i ≡ j = apart i j l m e f (sym same) in
    let is : l ≡ m = some_one l m (sym e ∙ ap (λ (k : ℕ). slice_get left k) at ∙ f) in
    ap (λ (x : Left). is_some x.granted) is ∙ g

module _ (old new : NamedView) (c : ℕ) (left : List Left) (d : IsLeftByName old new c left) where
  apart : AreApart left
  apart = subst (λ (x : List Left). AreApart x) (sym d.told)
      (told_apart old.names d.raw (subst (λ (x : List Left). AreApart x) (sym d.locks.told) (reports_apart c old.locks (length old.locks))))

  -- it is the same by the names after it
  pub said_same : said_left new.names left ≡ said_left old.names left
  said_same =
      ap (λ (os : List (Option Bound)). said_left os left) d.names
      ∙ said_all (names_left old.fixed old.names left) old.names left (λ i l e g. left_same old.fixed l.lock old.names left (granted_at left i l apart e g))

  pub fixed_same : new.fixed ≡ old.fixed
  fixed_same = ap (λ (s : Named). s.fixed) d.named ∙ fixed_after (named_of old) (leave_each c old.names)

  -- ---- rings that are short

  short_told : (os : List (Option Bound)) (vs : List LockView) (raw : List Left) → has_short_left vs (map (told_left os) raw) ≡ has_short_left vs raw
  short_told os vs [] = refl
  short_told os vs (l ∷ raw) = ap (λ (b : Bool). is_short_at (slice_get vs l.lock) || b) (short_told os vs raw)

  pub short_raw : (vs : List LockView) → has_short_left vs left ≡ has_short_left vs d.raw
  short_raw vs = ap (λ (x : List Left). has_short_left vs x) d.told ∙ short_told old.names vs d.raw
