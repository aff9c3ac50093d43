-- Which files of a folder are accepted (this project's own).
use Rattle.std.specs.Prelude.{◌≡◌, ℕ, ◌+◌, ◌<◌, not, Bool, true, false, List, [], ◌∷◌, ◌++◌, length, Option, Some, None, ◌⊎◌}
use Rattle.std.specs.List.{list_any}
use Rattle.name_bindings.specs.Bindings.{AreDistinct}
use Rattle.name_check.specs.declared.lines.Ring.{Ring}
use Rattle.name_check.specs.declared.wrongs.Wrong.TheVariants as why
use Rattle.name_check.specs.Entries.{Entry, Judged, begun, grants_in, File as NextFile}
use Rattle.name_check.specs.Judged.{most_grants, refusal, noted_all, AreRight, AreSaid}
use Rattle.name_check.specs.Kept.{IsNoted, unbegun}
use Rattle.judged_files.specs.declared.faults.Cause.{Cause}
use Rattle.judged_files.specs.declared.faults.Cause.TheVariants as cause
use Rattle.judged_files.specs.declared.faults.JudgeError.{JudgeError}
use Rattle.judged_files.specs.declared.faults.JudgeError.TheVariants as refused
use Rattle.judged_files.specs.Lines.{is_done, LineSays, IsUnsaid, whole_lines, shows_pool, AreSaidBy}
use Rattle.judged_files.specs.Beginnings.{Begins, IsUnbegun}

-- ---- a file

-- What is known before the first line of a file that begins with these rings: of the first one that
-- is judged what it says itself; of a later one what is known of those before, and the rings are the
-- same.
abbrev pub Starts : List (List ℕ) → Option Judged → List Ring → Judged → Type 0
Starts fixed None rings s = s ≡ begun fixed rings
Starts fixed (Some old) rings s =
    IsNoted old (NextFile (length rings)) s × (s.rings ≡ rings)

-- the file is accepted: what its lines say is right
pub record IsJudged (fixed : List (List ℕ)) (old : Option Judged) (bytes : List ℕ) (new : Judged) :
    Type 0 where
  pub rings : List Ring
  pub begins : Begins bytes rings
  pub start : Judged
  pub starts : Starts fixed old rings start
  pub said : List Entry
  pub each : AreSaidBy false (whole_lines bytes) said
  pub right : AreSaid start said new

-- The files before the first one that shows that the folder has a pool are passed over.
abbrev pub is_passed : ℕ → Option Judged → List ℕ → Bool
is_passed fixed None bytes = not (shows_pool fixed bytes)
is_passed fixed (Some old) bytes = false

abbrev pub IsAcceptedBy : Bool → List (List ℕ) → Option Judged → List ℕ → Option Judged → Type 0
IsAcceptedBy true fixed old bytes new = new ≡ None
IsAcceptedBy false fixed old bytes new =
    (s : Judged) × (new ≡ Some s) × IsJudged fixed old bytes s

-- a file is passed over, or judged
abbrev pub IsAccepted : List (List ℕ) → Option Judged → List ℕ → Option Judged → Type 0
IsAccepted fixed old bytes new =
    IsAcceptedBy (is_passed (length fixed) old bytes) fixed old bytes new

-- ---- a folder

-- files are accepted, one after the other
abbrev pub AreAccepted : List (List ℕ) → Option Judged → List (List ℕ) → Option Judged → Type 0
AreAccepted fixed old [] new = old ≡ new
AreAccepted fixed old (f ∷ fs) new =
    (mid : Option Judged) × IsAccepted fixed old f mid × AreAccepted fixed mid fs new

-- The last file may end after any line that follows its beginning.
abbrev pub MayEnd : Option Judged → Type 0
MayEnd None = Unit {0}
MayEnd (Some s) = unbegun s.due ≡ None

-- All files of a folder with these fixed locks are accepted.
abbrev pub IsJudgedFolder : List (List ℕ) → List (List ℕ) → Type 0
IsJudgedFolder fixed files =
    (new : Option Judged) × AreAccepted fixed None files new × MayEnd new

-- ---- refusals

-- why a line is refused
abbrev pub IsRefusedLine : Judged → Bool → List ℕ → Cause → Type 0
IsRefusedLine s done line cause.Misspelled = IsUnsaid done line
IsRefusedLine s done line (cause.Wrong w) =
    (e : Entry) × LineSays done line e × (refusal s e ≡ Some w)
IsRefusedLine s done line _ = ⊥

-- the line of this number, from 1, is the first that is not accepted
pub record IsRefusedAt (start : Judged) (lines : List (List ℕ)) (number : ℕ) (c : Cause) :
    Type 0 where
  pub before : List (List ℕ)
  pub line : List ℕ
  pub behind : List (List ℕ)
  pub parts : lines ≡ before ++ line ∷ behind
  pub count : number ≡ length before + 1
  pub said : List Entry
  pub each : AreSaidBy false before said
  pub right : AreRight start said
  pub why : IsRefusedLine (noted_all start said) (list_any is_done before) line c

-- the file cannot begin with these rings
abbrev pub CannotStart : List (List ℕ) → Option Judged → List Ring → Cause → Type 0
CannotStart fixed None rings cause.FewRings = length rings < length fixed
CannotStart fixed None rings cause.Twice = ¬ AreDistinct fixed
CannotStart fixed None rings (cause.Wrong why.Full) = most_grants < grants_in rings
CannotStart fixed (Some old) rings cause.OtherRings =
    (s : Judged) × IsNoted old (NextFile (length rings)) s × (¬ (s.rings ≡ rings))
CannotStart fixed (Some old) rings (cause.Wrong w) =
    refusal old (NextFile (length rings)) ≡ Some w
CannotStart fixed old rings _ = ⊥

-- memory aside, and by its first line
abbrev pub IsNoStart : List (List ℕ) → Option Judged → List Ring → JudgeError → Type 0
IsNoStart fixed old rings (refused.Line number c) =
    (number ≡ 1) × CannotStart fixed old rings c
IsNoStart fixed old rings refused.OutOfMemory = Unit {0}
IsNoStart fixed old rings _ = ⊥

-- the last file ends before its beginning is whole, after all its lines
abbrev pub IsEndedEarly : List (List ℕ) → Option Judged → List ℕ → Bool → ℕ → Cause → Type 0
IsEndedEarly fixed old bytes last number (cause.Wrong w) =
    (s : Judged)
    × IsJudged fixed old bytes s
    × (last ≡ true)
    × (number ≡ length (whole_lines bytes) + 1)
    × (unbegun s.due ≡ Some w)
IsEndedEarly fixed old bytes last number _ = ⊥

-- the line of this number is refused; memory aside
abbrev pub IsLineRefused : Judged → Bool → List ℕ → ℕ → JudgeError → Type 0
IsLineRefused s done line at (refused.Line number c) =
    (number ≡ at) × IsRefusedLine s done line c
IsLineRefused s done line at refused.OutOfMemory = Unit {0}
IsLineRefused s done line at _ = ⊥

abbrev pub AreLinesRefused : Judged → List ℕ → JudgeError → Type 0
AreLinesRefused start bytes (refused.Line number c) =
    IsRefusedAt start (whole_lines bytes) number c
AreLinesRefused start bytes refused.OutOfMemory = Unit {0}
AreLinesRefused start bytes _ = ⊥

-- Why a file that is not passed over is refused: its beginning, a line, or its end.
abbrev pub IsRefusedFile : List (List ℕ) → Option Judged → List ℕ → Bool → JudgeError → Type 0
IsRefusedFile fixed old bytes last e =
    IsUnbegun bytes e
    ⊎ (((rings : List Ring) × Begins bytes rings × IsNoStart fixed old rings e)
    ⊎ (((rings : List Ring)
    × (start : Judged)
    × Begins bytes rings
    × Starts fixed old rings start
    × AreLinesRefused start bytes e)
    ⊎ ((number : ℕ)
    × (c : Cause)
    × (e ≡ refused.Line number c)
    × IsEndedEarly fixed old bytes last number c)))

abbrev pub IsUnaccepted : List (List ℕ) → Option Judged → List ℕ → Bool → JudgeError → Type 0
IsUnaccepted fixed old bytes last e =
    (is_passed (length fixed) old bytes ≡ false) × IsRefusedFile fixed old bytes last e
