-- What is true of the lines that the judge accepts (this project's own).
use Rattle.std.specs.Prelude.{◌≡◌, ℕ, zero, suc, ◌+◌, ◌<◌, ◌≤◌, Bool, true, false, if◌then◌else◌, List, [], ◌∷◌, length, slice_get, Option, Some, None}
use Rattle.std.specs.List.{cons_option}
use Rattle.std.specs.Str.{bytes_eq}
use Rattle.name_bindings.specs.Bindings.{Bound, token_in, AreDistinct}
use Rattle.name_check.specs.declared.lines.Ring.{Ring}
use Rattle.name_check.specs.declared.lines.Due.TheVariants as due
use Rattle.name_check.specs.Entries.{Entry, Grant, End, Judged, begun, is_held}
use Rattle.name_check.specs.Judged.{noted, noted_all, AreRight}
use Rattle.name_check.specs.Kept.{IsSound}

-- ---- what lines say of a name

-- a hold of the name begins, with this token; or it ends
pub data Sign : Type 0 where
  Begins : ℕ → Sign
  Ends : Sign

-- how a ring is bound, if it has this name
abbrev pub bound_to : List ℕ → Option (Option Bound) → Option Bound
bound_to x (Some (Some b)) = if bytes_eq x b.name then Some b else None
bound_to x o = None

abbrev pub begins : Option Bound → Option Ring → Option Sign
begins (Some b) (Some g) = Some (Begins (token_in b (g.grants + 1)))
begins b g = None

abbrev pub ends : Option Bound → Option Sign
ends (Some b) = Some Ends
ends None = None

-- a grant begins a hold, with its token; the end of a hold ends it
abbrev pub sign_of : List ℕ → Judged → Entry → Option Sign
sign_of x s (Grant r) = begins (bound_to x (slice_get s.names r)) (slice_get s.rings r)
sign_of x s (End r) = ends (bound_to x (slice_get s.names r))
sign_of x s e = None

abbrev pub signs_of : List ℕ → Judged → List Entry → List Sign
signs_of x s [] = []
signs_of x s (e ∷ es) = cons_option (sign_of x s e) (signs_of x (noted s e) es)

-- One hold after the other: a hold begins only where none is open, with a greater token than those
-- before; and it ends only where one is open.
abbrev pub AreHolds : ℕ → Bool → List Sign → Type 0
AreHolds low busy [] = Unit {0}
AreHolds low busy (Begins token ∷ signs) = (busy ≡ false) × (low < token) × AreHolds token true signs
AreHolds low busy (Ends ∷ signs) = (busy ≡ true) × AreHolds low false signs

-- ---- the laws

-- What is known of a name: no token that it had is above this one, and whether a hold of it is open.
pub record IsNow (x : List ℕ) (low : ℕ) (busy : Bool) (s : Judged) : Type 0 where
  pub top : low ≤ s.top
  pub each : (i : ℕ) (g : Ring) (b : Bound) → slice_get s.rings i ≡ Some g
      → slice_get s.names i ≡ Some (Some b) → b.name ≡ x
      → (low ≤ token_in b g.grants) × (is_held g ≡ busy)
  pub none : ((i : ℕ) (b : Bound) → slice_get s.names i ≡ Some (Some b) → b.name ≡ x → ⊥)
      → busy ≡ false

-- The holds of each name in accepted lines, over all its bindings and over files, are one after the
-- other, and their tokens rise.
abbrev pub JudgedAreNamed : Type 0
JudgedAreNamed =
    (x : List ℕ) (low : ℕ) (busy : Bool) (s : Judged) (es : List Entry) → IsSound false s
    → IsNow x low busy s → AreRight s es → AreHolds low busy (signs_of x s es)

-- What is sound stays so.
abbrev pub SoundStays : Type 0
SoundStays =
    (trust : Bool) (s : Judged) (es : List Entry) → IsSound trust s → AreRight s es
    → IsSound trust (noted_all s es)

-- no client holds one of the rings
abbrev pub NoneHeld : List Ring → Type 0
NoneHeld rings = (i : ℕ) (g : Ring) → slice_get rings i ≡ Some g → is_held g ≡ false

-- So it is before the first file. If that begins with holds, it is so once it has restated their
-- names.
abbrev pub SoundBegins : Type 0
SoundBegins =
    (trust : Bool) (fixed : List (List ℕ)) (rings : List Ring) → AreDistinct fixed
    → length fixed ≤ length rings → (trust ≡ false → NoneHeld rings)
    → IsSound trust (begun fixed rings)

abbrev pub TrustEnds : Type 0
TrustEnds =
    (s : Judged) → IsSound true s → s.due ≡ due.Nothing → IsSound false s

-- ---- without the first files

-- the names of fixed locks; those of the pool are not known
abbrev pub fixed_only : ℕ → List (Option Bound) → List (Option Bound)
fixed_only fixed [] = []
fixed_only zero (o ∷ os) = None ∷ fixed_only zero os
fixed_only (suc fixed) (o ∷ os) = o ∷ fixed_only fixed os

abbrev pub forgotten : Judged → Judged
forgotten s = record {
  rings = s.rings;
  names = fixed_only s.fixed s.names;
  fixed = s.fixed;
  top = s.top;
  due = s.due;
}

-- Without the files before it, a file and those after it are accepted all the same, and once its
-- beginning has restated the names, the same is known.
abbrev pub RemaindersAreNamed : Type 0
RemaindersAreNamed =
    (s : Judged) (es : List Entry) → IsSound false s → s.due ≡ due.Top → AreRight s es
    → AreRight (forgotten s) es
    × ((noted_all s es).due ≡ due.Nothing → noted_all (forgotten s) es ≡ noted_all s es)
