-- What is true of what is known, after every right line; and how a line is read (this project's own).
use Rattle.std.specs.Prelude.{◌≡◌, ℕ, ◌<◌, ◌≤◌, nat_le, ◌==◌, Bool, true, false, List, length, slice_get, Option, Some, None, ◌⊎◌}
use Rattle.name_bindings.specs.Bindings.{Bound, token_in, found, AreNamedOnce, AreDistinct}
use Rattle.name_check.specs.declared.begin.NotJudged.{NotJudged}
use Rattle.name_check.specs.declared.begin.NotJudged.TheVariants as not_judged
use Rattle.name_check.specs.declared.lines.Ring.{Ring}
use Rattle.name_check.specs.declared.lines.Due.{Due}
use Rattle.name_check.specs.declared.lines.Due.TheVariants as due
use Rattle.name_check.specs.declared.lines.Line.{Line}
use Rattle.name_check.specs.declared.lines.Line.TheVariants as line
use Rattle.name_check.specs.declared.notes.Notes.{Notes}
use Rattle.name_check.specs.declared.wrongs.Wrong.{Wrong}
use Rattle.name_check.specs.declared.wrongs.Wrong.TheVariants as why
use Rattle.name_check.specs.declared.wrongs.Refused.{Refused}
use Rattle.name_check.specs.declared.wrongs.Refused.TheVariants as refused
use Rattle.name_check.specs.Entries.{Entry, Top, Bind, Free, Grant, Repair, End, Other, Judged, grants_in, is_held}
use Rattle.name_check.specs.Judged.{most_grants, refusal, noted}

-- what is known, as it is kept
abbrev pub seen : Notes → Judged
seen n = record {
  rings = n.rings.items;
  names = n.names;
  fixed = n.fixed;
  top = n.top;
  due = n.due;
}

-- a line, with the bytes of its name
abbrev pub entry_of : Line → Entry
entry_of (line.Top n) = Top n
entry_of (line.Bind ring before floor name) =
    Bind ring (record { name = name.now; before = before; floor = floor })
entry_of (line.Free ring) = Free ring
entry_of (line.Grant ring) = Grant ring
entry_of (line.Repair ring) = Repair ring
entry_of (line.End ring) = End ring
entry_of line.Other = Other

-- ---- what is true

-- the name of the ring is not known yet, since the file in which it was bound is gone
abbrev pub is_unknown : Due → ℕ → Bool
is_unknown due.Top i = true
is_unknown (due.Restated q) i = nat_le q i
is_unknown d i = false

-- the ring has a name, and no client holds it
abbrev pub is_between : Due → ℕ → Bool
is_between (due.Granted q) i = q == i
is_between (due.Handed q) i = q == i
is_between d i = false

-- A binding began at or before the ring's last grant, whose token is one that was counted.
pub record IsBoundWithin (top : ℕ) (g : Ring) (b : Bound) : Type 0 where
  pub before : b.before ≤ g.grants
  pub token : token_in b g.grants ≤ top

-- A ring of the pool has a name while it is held, and between a binding and its grant or a hold and
-- the next; it is held by a grant after the binding. If the first files are gone, names may come
-- that are not known yet.
abbrev pub IsSoundRing : Bool → ℕ → ℕ → Due → ℕ → Ring → Option Bound → Type 0
IsSoundRing trust fixed top d i g None =
    (fixed ≤ i)
    × (is_held g ≡ true → (trust ≡ true) × (is_unknown d i ≡ true))
    × (is_between d i ≡ false)
IsSoundRing trust fixed top d i g (Some b) =
    IsBoundWithin top g b
    × (is_between d i ≡ true → is_held g ≡ false)
    × (fixed ≤ i → is_held g ≡ false → is_between d i ≡ true)
    × (fixed ≤ i → is_held g ≡ true → b.before < g.grants)

-- what has to come next is of a ring of the pool; a binding is restated of a ring that is held
abbrev pub IsSoundDue : ℕ → List Ring → Due → Type 0
IsSoundDue fixed rings (due.Restated q) =
    (g : Ring) → slice_get rings q ≡ Some g → is_held g ≡ true
IsSoundDue fixed rings (due.Granted q) = fixed ≤ q
IsSoundDue fixed rings (due.Handed q) = (fixed ≤ q) × (q < length rings)
IsSoundDue fixed rings d = Unit {0}

pub record IsSound (trust : Bool) (s : Judged) : Type 0 where
  pub many : length s.names ≡ length s.rings
  pub room : s.fixed ≤ length s.rings
  pub counted : (i : ℕ) (g : Ring) → slice_get s.rings i ≡ Some g → g.grants ≤ s.top
  pub each : (i : ℕ) (g : Ring) (o : Option Bound) → slice_get s.rings i ≡ Some g
      → slice_get s.names i ≡ Some o → IsSoundRing trust s.fixed s.top s.due i g o
  pub once : AreNamedOnce s.names
  pub next : IsSoundDue s.fixed s.rings s.due

-- ---- how a line is read

-- It is accepted exactly if it is right, and refused for what is wrong; then nothing changes. Only a
-- binding that is right can be refused for lack of memory.
abbrev pub IsRefused : Judged → Entry → Judged → Refused → Type 0
IsRefused s e t (refused.Wrong w) = (refusal s e ≡ Some w) × (t ≡ s)
IsRefused s e t refused.Memory = (refusal s e ≡ None) × (t ≡ s)

pub record IsNoted (s : Judged) (e : Entry) (t : Judged) : Type 0 where
  pub right : refusal s e ≡ None
  pub now : t ≡ noted s e

-- the same of a line that needs no memory
abbrev pub IsRead : Judged → Entry → Judged → Option Wrong → Type 0
IsRead s e t None = IsNoted s e t
IsRead s e t (Some w) = (refusal s e ≡ Some w) × (t ≡ s)

-- a line that is wrong, and needs no memory
abbrev pub IsWrong : Option Wrong → Refused → Type 0
IsWrong o (refused.Wrong w) = o ≡ Some w
IsWrong o refused.Memory = ⊥

-- the ring has this name already, or it has none, nor has another ring the name
abbrev pub IsPut : List (Option Bound) → ℕ → Bound → Type 0
IsPut os r b =
    (slice_get os r ≡ Some (Some b))
    ⊎ ((slice_get os r ≡ Some None) × (found b.name os ≡ None))

-- ---- where the judge begins, and the next file

-- why it cannot begin
abbrev pub CannotBegin : List (List ℕ) → List Ring → NotJudged → Type 0
CannotBegin fixed rings not_judged.Rings = length rings < length fixed
CannotBegin fixed rings not_judged.Twice = ¬ AreDistinct fixed
CannotBegin fixed rings not_judged.Full = most_grants < grants_in rings
CannotBegin fixed rings not_judged.Memory = Unit {0}

-- why a file is not the next one
abbrev pub IsNotNext : Judged → Entry → Refused → Type 0
IsNotNext s e (refused.Wrong w) = refusal s e ≡ Some w
IsNotNext s e refused.Memory = refusal s e ≡ None

-- ---- where a file begins, and where the last one ends

-- the last file ends before its beginning is whole
abbrev pub unbegun : Due → Option Wrong
unbegun due.Top = Some why.NoTop
unbegun (due.Restated q) = Some why.NotRestated
unbegun d = None
