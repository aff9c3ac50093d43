-- The first ring that is held.
use Rattle.std.proofs.Common.{◌≡◌, ℕ, zero, suc, ◌+◌, ◌<◌, ◌≤◌, Bool, true, false, List, [], ◌∷◌, length, get_or, Option, None, Some, inl, inr, refl, sym, ◌∙◌, ap, subst, arith}
use Rattle.std.specs.Prelude.{nat_le, nat_lt, ◌&&◌, if◌then◌else◌, slice_get}
use Rattle.std.proofs.lemmas.Bool.{le-leb, leb-true, and_parts, and_from, both_ways, cases_Bool, cases_eq, ltb-true, ltb-false}
use Rattle.std.proofs.lemmas.List.{ext_get_or}
use Rattle.std.proofs.lemmas.Option.{slice_get-get_or, slice_get_within, get_or_from_slice_get}
use Rattle.name_bindings.proofs.Found.{some_same, none_some}
use Rattle.name_check.specs.declared.lines.Ring.{Ring}
use Rattle.name_check.specs.Entries.{fresh_ring, is_held}
use Rattle.name_check.specs.Judged.{first_held, restated}
use Rattle.name_check.specs.Kept.{is_unknown, is_between, IsSoundDue}

-- it is held, and not before this place
pub record FoundHeld (low at : ℕ) (gs : List Ring) (q : ℕ) : Type 0 where
  pub place : ℕ
  pub ring : Ring
  pub there : slice_get gs place ≡ Some ring
  pub is : q ≡ at + place
  pub from : low ≤ q
  pub held : is_held ring ≡ true

found_by : (low at : ℕ) (k : Ring) (gs : List Ring) (q : ℕ) → ((o : first_held low (suc at) gs ≡ Some q) → FoundHeld low (suc at) gs q) →
    (b : Bool) → (nat_le low at && is_held k) ≡ b → (if b then Some at else first_held low (suc at) gs) ≡ Some q → FoundHeld low at (k ∷ gs) q
found_by low at k gs q rest true p e =
    let same : at ≡ q = some_same at q e in
    let parts = and_parts (nat_le low at) (is_held k) p in
    let le : low ≤ at = leb-true low at parts.0 in
    record { place = zero; ring = k; there = refl; is = omega arith; from = omega arith; held = parts.1 }
found_by low at k gs q rest false p e =
    let r = rest e in
    let is : q ≡ suc at + r.place = r.is in
    record { place = suc r.place; ring = r.ring; there = r.there; is = omega arith; from = r.from; held = r.held }

pub found_held : (low at : ℕ) (gs : List Ring) (q : ℕ) → first_held low at gs ≡ Some q → FoundHeld low at gs q
found_held low at [] q e = absurd (none_some q e)
found_held low at (k ∷ gs) q e = found_by low at k gs q (λ o. found_held low (suc at) gs q o) (nat_le low at && is_held k) refl e

-- a ring that is held is it, or comes after it
first_by : (low at : ℕ) (k : Ring) (gs : List Ring) (i : ℕ) (g : Ring) → slice_get (k ∷ gs) i ≡ Some g → is_held g ≡ true → low ≤ at + i →
    ((j : ℕ) → slice_get gs j ≡ Some g → low ≤ suc at + j → (q : ℕ) × (first_held low (suc at) gs ≡ Some q) × (q ≤ suc at + j)) →
    (b : Bool) → (nat_le low at && is_held k) ≡ b → (q : ℕ) × ((if b then Some at else first_held low (suc at) gs) ≡ Some q) × (q ≤ at + i)
first_by low at k gs i g e h le rest true p = (at, refl, omega arith)
first_by low at k gs zero g e h le rest false p =
    let same : k ≡ g = some_same k g e in
    let near : low ≤ at = omega (arith, le) in
    absurd (both_ways (nat_le low at && is_held k) p (and_from (nat_le low at) (is_held k) (le-leb low at near) (ap (λ (x : Ring). is_held x) same ∙ h)))
first_by low at k gs (suc i) g e h le rest false p =
    let far : low ≤ suc at + i = omega (arith, le) in
    let r = rest i e far in
    let within : r.0 ≤ suc at + i = r.2 in
    (r.0, r.1, omega arith)

pub first_at : (low at : ℕ) (gs : List Ring) (i : ℕ) (g : Ring) → slice_get gs i ≡ Some g → is_held g ≡ true → low ≤ at + i → (q : ℕ) × (first_held low at gs ≡ Some q) × (q ≤ at + i)
first_at low at [] i g e h le = absurd (none_some g e)
first_at low at (k ∷ gs) i g e h le = first_by low at k gs i g e h le (λ j f less. first_at low (suc at) gs j g f h less) (nat_le low at && is_held k) refl

-- ---- what is due then

pub never_between : (o : Option ℕ) (i : ℕ) → is_between (restated o) i ≡ false
never_between None i = refl
never_between (Some q) i = refl

pub unknown_from : (low : ℕ) (rings : List Ring) (i : ℕ) (g : Ring) → slice_get rings i ≡ Some g → is_held g ≡ true → low ≤ i → is_unknown (restated (first_held low 0 rings)) i ≡ true
unknown_from low rings i g e h le =
    let r = first_at low 0 rings i g e h (omega arith) in
    let within : r.0 ≤ 0 + i = r.2 in
    let near : r.0 ≤ i = omega arith in
    subst (λ (o : Option ℕ). is_unknown (restated o) i ≡ true) (sym r.1) (le-leb r.0 i near)

due_by : (fixed low : ℕ) (rings : List Ring) (o : Option ℕ) → first_held low 0 rings ≡ o → IsSoundDue fixed rings (restated o)
due_by fixed low rings None f = tt
due_by fixed low rings (Some q) f = λ g e.
    let r = found_held low 0 rings q f in
    let is : q ≡ 0 + r.place = r.is in
    let at : r.place ≡ q = omega arith in
    ap (λ (x : Ring). is_held x) (some_same g r.ring (sym e ∙ ap (λ (n : ℕ). slice_get rings n) (sym at) ∙ r.there)) ∙ r.held

pub due_from : (fixed low : ℕ) (rings : List Ring) → IsSoundDue fixed rings (restated (first_held low 0 rings))
due_from fixed low rings = due_by fixed low rings (first_held low 0 rings) refl

-- ---- the scan

-- none before this place is held
abbrev pub NoneBefore : ℕ → ℕ → List Ring → Type 0
NoneBefore low at rings = (i : ℕ) (g : Ring) → low ≤ i → i < at → slice_get rings i ≡ Some g → is_held g ≡ false

pub scan_found : (low at : ℕ) (rings : List Ring) (g : Ring) → slice_get rings at ≡ Some g → is_held g ≡ true → low ≤ at → NoneBefore low at rings → first_held low 0 rings ≡ Some at
scan_found low at rings g e h le none =
    let r = first_at low 0 rings at g e h (omega arith) in
    let w = found_held low 0 rings r.0 r.1 in
    let is : r.0 ≡ 0 + w.place = w.is in
    let within : r.0 ≤ 0 + at = r.2 in
    let from : low ≤ r.0 = w.from in
    let place : w.place ≡ r.0 = omega arith in
    let not_less : r.0 < at → ⊥ = λ lt. both_ways (is_held w.ring) (none w.place w.ring (omega arith) (omega (arith, lt)) w.there) w.held in
    r.1 ∙ ap (λ (n : ℕ). Some n) (equal r.0 at (omega arith) not_less)
  where
    equal : (q at : ℕ) → q ≤ at → (q < at → ⊥) → q ≡ at
    equal q at le far = elim (cases_Bool (nat_lt q at)) [
      | inl p ↦ absurd (far (ltb-true q at p))
      | inr p ↦ let ge : at ≤ q = ltb-false q at p in omega arith
    ]

pub scan_none : (low at : ℕ) (rings : List Ring) → ((i : ℕ) (g : Ring) → slice_get rings i ≡ Some g → i < at) → NoneBefore low at rings → (o : Option ℕ) → first_held low 0 rings ≡ o → o ≡ None
scan_none low at rings all none None f = refl
scan_none low at rings all none (Some q) f =
    let w = found_held low 0 rings q f in
    let is : q ≡ 0 + w.place = w.is in
    let from : low ≤ q = w.from in
    absurd (both_ways (is_held w.ring) (none w.place w.ring (omega arith) (all w.place w.ring w.there) w.there) w.held)

pub scan_here : (low at : ℕ) (rings : List Ring) (d : Ring) → at < length rings → is_held (get_or rings at d) ≡ true → low ≤ at → NoneBefore low at rings → Some at ≡ first_held low 0 rings
scan_here low at rings d lt h le none = sym (scan_found low at rings (get_or rings at d) (slice_get-get_or rings at d lt) h le none)

pub scan_more : (low at : ℕ) (rings : List Ring) (d : Ring) → at < length rings → is_held (get_or rings at d) ≡ false → NoneBefore low at rings → NoneBefore low (at + 1) rings
scan_more low at rings d lt idle none i g le less e = elim (cases_eq i at) [
  | inl q ↦
      let same : g ≡ get_or rings at d = some_same g (get_or rings at d) (sym e ∙ ap (λ (n : ℕ). slice_get rings n) q ∙ slice_get-get_or rings at d lt) in
      ap (λ (x : Ring). is_held x) same ∙ idle
  | inr q ↦ none i g le (omega (arith, q, less)) e
]

pub scan_past : (low at : ℕ) (rings : List Ring) → length rings ≤ at → NoneBefore low at rings → None ≡ first_held low 0 rings
scan_past low at rings past none =
    sym (scan_none low at rings (λ i g e. let lt : i < length rings = slice_get_within rings i g e in omega arith) none (first_held low 0 rings) refl)

-- ---- the same rings

abbrev pub SameBefore : ℕ → List Ring → List Ring → Type 0
SameBefore at known rings = (j : ℕ) → j < at → slice_get known j ≡ slice_get rings j

pub same_more : (at : ℕ) (known rings : List Ring) (d e : Ring) → at < length known → at < length rings → get_or known at d ≡ get_or rings at e → SameBefore at known rings → SameBefore (at + 1) known rings
same_more at known rings d e lt less same before j k = elim (cases_eq j at) [
  | inl q ↦
      ap (λ (n : ℕ). slice_get known n) q
      ∙ slice_get-get_or known at d lt
      ∙ ap (λ (g : Ring). Some g) same
      ∙ sym (slice_get-get_or rings at e less)
      ∙ ap (λ (n : ℕ). slice_get rings n) (sym q)
  | inr q ↦ before j (omega (arith, q, k))
]

pub same_all : (known rings : List Ring) → length known ≡ length rings → SameBefore (length known) known rings → known ≡ rings
same_all known rings many before =
    ext_get_or fresh_ring known rings many (λ i lt. sym (get_or_from_slice_get rings i (get_or known i fresh_ring) fresh_ring (sym (before i lt) ∙ slice_get-get_or known i fresh_ring lt)))

pub same_here : (at : ℕ) (known rings : List Ring) (d e : Ring) → at < length known → at < length rings → known ≡ rings → get_or known at d ≡ get_or rings at e
same_here at known rings d e lt less same =
    some_same (get_or known at d) (get_or rings at e) (sym (slice_get-get_or known at d lt) ∙ ap (λ (gs : List Ring). slice_get gs at) same ∙ slice_get-get_or rings at e less)
