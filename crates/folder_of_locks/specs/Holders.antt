-- The clients that get the holds which are open at a start, as a text (this project's own).
use Rattle.std.specs.Prelude.{◌≡◌, ◌≢◌, ℕ, ◌+◌, ◌<◌, ◌^◌, List, [], ◌∷◌, ◌++◌, length, take, slice_get, Some, codes}
use Rattle.std.specs.List.{flat_map, AllByRecursion}
use Rattle.text_lines.specs.Spelling.{spaced, ended}
use Rattle.held_locks.specs.declared.handing.Handover.{Handover}
use Rattle.held_locks.specs.Kept.{LockView}
use Rattle.held_locks.specs.Handed.{IsHanded, CannotBeHanded}
use Rattle.lock_protocol.specs.Names.{IsName, name_spaced, Names, lock_named}
use Rattle.folder_of_locks.specs.declared.holder_reading.NamedHold.{NamedHold}
use Rattle.folder_of_locks.specs.declared.holder_reading.HoldersError.{HoldersError}
use Rattle.folder_of_locks.specs.declared.holder_reading.HoldersError.TheVariants as fault

-- a hold that is handed over: the name of its lock, its token, and the client that gets it
pub record Hold : Type 0 where
  pub name : List ℕ
  pub token : ℕ
  pub client : ℕ

-- the content of the program's own type
abbrev pub hold_of : NamedHold → Hold
hold_of h = record { name = h.name.items; token = h.token; client = h.client }

-- its line
abbrev pub hold_line : Hold → List ℕ
hold_line h = codes "hold " ++ (name_spaced h.name ++ (spaced h.token ++ ended h.client))

-- its name is one, and its numbers have 64 bits
pub record FitsLine (h : Hold) : Type 0 where
  pub name : IsName h.name
  pub token : h.token < 2 ^ 64
  pub client : h.client < 2 ^ 64

-- the lines of holds
abbrev pub lines_of : List Hold → List ℕ
lines_of hs = flat_map hold_line hs

-- the bytes are just the lines of these
pub record AreHolders (bytes : List ℕ) (hs : List Hold) : Type 0 where
  pub lines : bytes ≡ lines_of hs
  pub each : AllByRecursion FitsLine hs

-- ---- refusals

-- no line of a hold begins the bytes
abbrev pub HasNoHold : List ℕ → Type 0
HasNoHold bytes = (h : Hold) (more : List ℕ) → FitsLine h → bytes ≢ hold_line h ++ more

-- after the lines of some holds there is something else, on this line
pub record IsBadLine (bytes : List ℕ) (line : ℕ) : Type 0 where
  pub before : List Hold
  pub rest : List ℕ
  pub lines : bytes ≡ lines_of before ++ rest
  pub each : AllByRecursion FitsLine before
  pub many : line ≡ length before + 1
  pub some : rest ≢ []
  pub none : HasNoHold rest

-- why the bytes are not the lines of holds
abbrev pub IsHoldersFault : List ℕ → HoldersError → Type 0
IsHoldersFault bytes (fault.Line line) = IsBadLine bytes line
IsHoldersFault bytes fault.OutOfMemory = Unit {0}

-- why no hold is read after these
abbrev pub IsNoLine : List Hold → List ℕ → HoldersError → Type 0
IsNoLine before bytes (fault.Line line) = (line ≡ length before + 1) × HasNoHold bytes
IsNoLine before bytes fault.OutOfMemory = Unit {0}

-- ---- how they are handed over

-- the hold of the lock of this number
abbrev pub handover : Hold → ℕ → Handover
handover h lock = record { lock = lock; token = h.token; client = h.client }

-- the hold of the lock of its name was handed to its client
abbrev pub IsHandedBy : Names → List LockView → List LockView → Hold → Type 0
IsHandedBy names old new h =
    (lock : ℕ) × (lock_named names h.name ≡ Some lock) × IsHanded old new (handover h lock)

-- each was, one after the other
abbrev pub AreHandedBy : Names → List LockView → List Hold → List LockView → Type 0
AreHandedBy names old [] new = new ≡ old
AreHandedBy names old (h ∷ hs) new =
    (mid : List LockView) × IsHandedBy names old mid h × AreHandedBy names mid hs new

-- no lock has the name, or the one that has it has no such open hold
abbrev pub CannotBeHandedBy : Names → List LockView → Hold → Type 0
CannotBeHandedBy names locks h =
    (lock : ℕ) → lock_named names h.name ≡ Some lock → CannotBeHanded locks (handover h lock)

-- those of the lines before this one were handed over, and its own cannot be
pub record IsNotHanded (names : Names) (locks : List LockView) (hs : List Hold) (line : ℕ) :
    Type 0 where
  pub place : ℕ
  pub line_is : line ≡ place + 1
  pub mid : List LockView
  pub before : AreHandedBy names locks (take place hs) mid
  pub hold : Hold
  pub there : slice_get hs place ≡ Some hold
  pub cannot : CannotBeHandedBy names mid hold

-- ---- laws: bytes are the lines of one list of holds at most, or they have one bad line

abbrev pub OneText : Type 0
OneText =
    (bytes : List ℕ) (hs gs : List Hold) → AreHolders bytes hs → AreHolders bytes gs → hs ≡ gs

abbrev pub NoBadLine : Type 0
NoBadLine =
    (bytes : List ℕ) (hs : List Hold) (line : ℕ) → AreHolders bytes hs → ¬ IsBadLine bytes line

abbrev pub OneBadLine : Type 0
OneBadLine =
    (bytes : List ℕ) (line other : ℕ) → IsBadLine bytes line → IsBadLine bytes other → line ≡ other
