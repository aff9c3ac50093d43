-- What is sound before the first line, and where trust ends.
use Rattle.std.proofs.Common.{◌≡◌, ℕ, zero, suc, ◌+◌, ◌-◌, ◌<◌, ◌≤◌, Bool, true, false, List, [], ◌∷◌, ◌++◌, length, Option, None, Some, inl, inr, refl, sym, ◌∙◌, ap, subst, arith}
use Rattle.std.specs.Prelude.{slice_get}
use Rattle.std.proofs.lemmas.Bool.{false≢true}
use Rattle.std.proofs.lemmas.List.{length-append, length-map}
use Rattle.std.proofs.lemmas.List.Sums.{sum_by-cons}
use Rattle.std.proofs.lemmas.Option.{slice_get_within}
use Rattle.name_bindings.specs.Bindings.{Bound, fixed_names, frees}
use Rattle.name_bindings.proofs.Found.{some_same, none_some}
use Rattle.name_check.specs.declared.lines.Ring.{Ring}
use Rattle.name_check.specs.declared.lines.Due.{Due}
use Rattle.name_check.specs.declared.lines.Due.TheVariants as due
use Rattle.name_check.specs.Entries.{Judged, begun, grants_in, is_held}
use Rattle.name_check.specs.Kept.{IsSoundRing, IsSound}
use Rattle.name_check.specs.Laws.{NoneHeld, SoundBegins, TrustEnds}
use Rattle.name_check.proofs.Starting.{begun_is}
use Rattle.name_check.proofs.Sounding.{joined, free_name, length_frees, named_before}

abbrev fixed_name : List ℕ → Bound
fixed_name x = record { name = x; before = 0; floor = 0 }

fixed_at : (ns : List (List ℕ)) (i : ℕ) (o : Option Bound) → slice_get (fixed_names ns) i ≡ Some o → (x : List ℕ) × (slice_get ns i ≡ Some x) × (Some (fixed_name x) ≡ o)
fixed_at [] i o e = absurd (none_some o e)
fixed_at (n ∷ ns) zero o e = (n, refl, some_same (Some (fixed_name n)) o e)
fixed_at (n ∷ ns) (suc i) o e = fixed_at ns i o e

in_sum : (gs : List Ring) (i : ℕ) (g : Ring) → slice_get gs i ≡ Some g → g.grants ≤ grants_in gs
in_sum [] i g e = absurd (none_some g e)
in_sum (k ∷ gs) zero g e =
    let same : k.grants ≡ g.grants = ap (λ (x : Ring). x.grants) (some_same k g e) in
    let sum : grants_in (k ∷ gs) ≡ k.grants + grants_in gs = sum_by-cons (λ (x : Ring). x.grants) k gs in
    omega arith
in_sum (k ∷ gs) (suc i) g e =
    let le : g.grants ≤ grants_in gs = in_sum gs i g e in
    let sum : grants_in (k ∷ gs) ≡ k.grants + grants_in gs = sum_by-cons (λ (x : Ring). x.grants) k gs in
    omega arith

held_known : (trust : Bool) (g : Ring) → (trust ≡ false → is_held g ≡ false) → is_held g ≡ true → trust ≡ true
held_known true g none held = refl
held_known false g none held = absurd (false≢true (sym (none refl) ∙ held))

begun_ring : (trust : Bool) (fixed : List (List ℕ)) (rings : List Ring) (i : ℕ) (g : Ring) (o : Option Bound) (n : ℕ) → (trust ≡ false → NoneHeld rings) → slice_get rings i ≡ Some g → slice_get (fixed_names fixed ++ frees n) i ≡ Some o →
    IsSoundRing trust (length fixed) (grants_in rings) due.Top i g o
begun_ring trust fixed rings i g o n none e f =
    let many : length (fixed_names fixed) ≡ length fixed = length-map fixed (λ (x : List ℕ). Some (fixed_name x)) in
    let le : g.grants ≤ grants_in rings = in_sum rings i g e in
    elim (joined (fixed_names fixed) (frees n) i o f) [
      | inl p ↦
          let w = fixed_at fixed i o p in
          let lt : i < length fixed = slice_get_within fixed i w.0 w.1 in
          subst (λ (x : Option Bound). IsSoundRing trust (length fixed) (grants_in rings) due.Top i g x) w.2
          (record { before = omega arith; token = omega arith }, λ q. absurd (false≢true q), λ pool idle. absurd (omega (arith, lt, pool)), λ pool held. absurd (omega (arith, lt, pool)))
      | inr p ↦
          let at : i ≡ length (fixed_names fixed) + p.0 = p.1 in
          subst (λ (x : Option Bound). IsSoundRing trust (length fixed) (grants_in rings) due.Top i g x) (sym (free_name n p.0 o p.2))
          (omega arith, λ h. (held_known trust g (λ t. none t i g e) h, refl), refl)
    ]

begun_once : (fixed : List (List ℕ)) (n : ℕ) → ((i j : ℕ) (x : List ℕ) → slice_get fixed i ≡ Some x → slice_get fixed j ≡ Some x → i ≡ j) →
    (i j : ℕ) (b d : Bound) → slice_get (fixed_names fixed ++ frees n) i ≡ Some (Some b) → slice_get (fixed_names fixed ++ frees n) j ≡ Some (Some d) → b.name ≡ d.name → i ≡ j
begun_once fixed n apart i j b d e f same =
    let v = fixed_at fixed i (Some b) (named_before (fixed_names fixed) n i b e) in
    let w = fixed_at fixed j (Some d) (named_before (fixed_names fixed) n j d f) in
    let x : v.0 ≡ b.name = ap (λ (z : Bound). z.name) (some_same (fixed_name v.0) b v.2) in
    let y : w.0 ≡ d.name = ap (λ (z : Bound). z.name) (some_same (fixed_name w.0) d w.2) in
    apart i j b.name (v.1 ∙ ap (λ (z : List ℕ). Some z) x) (w.1 ∙ ap (λ (z : List ℕ). Some z) (y ∙ sym same))

pub sound_begins : SoundBegins
sound_begins trust fixed rings apart le none =
    let names : length (fixed_names fixed) ≡ length fixed = length-map fixed (λ (x : List ℕ). Some (fixed_name x)) in
    let frees_many : length (frees (length rings - length fixed)) ≡ length rings - length fixed = length_frees (length rings - length fixed) in
    let all : length (fixed_names fixed ++ frees (length rings - length fixed)) ≡ length (fixed_names fixed) + length (frees (length rings - length fixed)) = length-append (fixed_names fixed) (frees (length rings - length fixed)) in
    record {
      many = omega arith;
      room = le;
      counted = λ i g e. in_sum rings i g e;
      each = λ i g o e f. begun_ring trust fixed rings i g o (length rings - length fixed) none e f;
      once = begun_once fixed (length rings - length fixed) apart;
      next = tt;
    }

known_ring : (fixed top i : ℕ) (g : Ring) (o : Option Bound) → IsSoundRing true fixed top due.Nothing i g o → IsSoundRing false fixed top due.Nothing i g o
known_ring fixed top i g None w = (w.0, λ h. absurd (false≢true (w.1 h).1), w.2)
known_ring fixed top i g (Some b) w = w

pub trust_ends : TrustEnds
trust_ends s h d = record {
  many = h.many;
  room = h.room;
  counted = h.counted;
  each = λ i g o e f.
      subst (λ (x : Due). IsSoundRing false s.fixed s.top x i g o) (sym d)
      (known_ring s.fixed s.top i g o (subst (λ (x : Due). IsSoundRing true s.fixed s.top x i g o) d (h.each i g o e f)));
  once = h.once;
  next = h.next;
}

pub begun_sound : (t : Judged) (fixed : List (List ℕ)) (rings : List Ring) → t ≡ begun fixed rings → ((i j : ℕ) (x : List ℕ) → slice_get fixed i ≡ Some x → slice_get fixed j ≡ Some x → i ≡ j) → length fixed ≤ length rings → IsSound true t
begun_sound t fixed rings e apart le = subst (λ (x : Judged). IsSound true x) (sym e) (sound_begins true fixed rings apart le (λ q. absurd (false≢true (sym q))))

pub begun_kept : (rings items : List Ring) (ns : List (List ℕ)) (os : List (Option Bound)) (fixed top : ℕ) → items ≡ rings → fixed ≡ length ns → os ≡ fixed_names ns ++ frees (length rings - fixed) → top ≡ grants_in rings →
    ((i j : ℕ) (x : List ℕ) → slice_get ns i ≡ Some x → slice_get ns j ≡ Some x → i ≡ j) → fixed ≤ length rings → IsSound true (record { rings = items; names = os; fixed = fixed; top = top; due = due.Top })
begun_kept rings items ns os fixed top same few e sum apart le =
    subst (λ (gs : List Ring). IsSound true (record { rings = gs; names = os; fixed = fixed; top = top; due = due.Top })) (sym same)
    (begun_sound (record { rings = rings; names = os; fixed = fixed; top = top; due = due.Top }) ns rings
    (begun_is rings ns os fixed top few (e ∙ ap (λ (n : ℕ). fixed_names ns ++ frees (length rings - n)) few) sum) apart (omega arith))
