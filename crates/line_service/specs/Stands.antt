-- What answers lines, and the files beside it (this project's own).
use Rattle.std.specs.Prelude.{◌≡◌, ◌++◌, ◌⊎◌, ℕ, Bool, false, List, Option}
use Rattle.disks.specs.Held.{Held}
use Rattle.line_service.specs.declared.pending.Pending.{Pending}
use Rattle.line_service.specs.Answering.{Answering}

-- what answers lines, and the content of files
pub record Stand (S : Type 0) : Type 0 where
  pub service : S
  pub files : Option Held

abbrev pub stand : {S : Type 0} → S → Option Held → Stand S
stand service files = record { service = service; files = files }

-- how a line is answered, with the content of files before and after it
abbrev pub AnsweringWith : Type 0 → Type 1
AnsweringWith S = S → Option Held → List ℕ → List ℕ → List ℕ → S → Option Held → Type 0

-- the same from the one to the other together with the files
abbrev pub by_stand : {S : Type 0} → AnsweringWith S → Answering (Stand S)
by_stand A old line said noted new = A old.service old.files line said noted new.service new.files

-- this text and these notes were added to what is pending
abbrev pub IsAdded : Pending → Pending → List ℕ → List ℕ → Type 0
IsAdded old new said noted =
    (new.answers.items ≡ old.answers.items ++ said) × (new.notes.items ≡ old.notes.items ++ noted)

-- the line is answered, and its answer and its notes were added to what is pending
abbrev pub IsAnsweredInto : {S : Type 0} → AnsweringWith S → List ℕ → S → Option Held → S
    → Option Held → Pending → Pending → Type 0
IsAnsweredInto A line old was new is before after =
    (said : List ℕ)
    × (noted : List ℕ)
    × A old was line said noted new is
    × IsAdded before after said noted

-- nothing has changed, or the line is answered
abbrev pub IsSameOrAnswered : {S : Type 0} → AnsweringWith S → List ℕ → S → Option Held → S
    → Option Held → Type 0
IsSameOrAnswered A line old was new is =
    ((new ≡ old) × (is ≡ was))
    ⊎ ((said : List ℕ) × (noted : List ℕ) × A old was line said noted new is)

-- Where answers change no file, what is left of files is what it was; and no later answer changes
-- one.
abbrev pub LeavesFiles : {S D : Type 0} → (S → Bool) → (D → Option Held) → S → D → S → D → Type 0
LeavesFiles changes leaves old was new is =
    changes old ≡ false → (leaves is ≡ leaves was) × (changes new ≡ false)
