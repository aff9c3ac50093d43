-- The lines of the last file of a folder that are kept when locks by any name start, and what they
-- record of names (this project's own).
use Rattle.std.specs.Prelude.{◌≡◌, ◌≢◌, ℕ, ◌+◌, List, [], ◌∷◌, ◌++◌, length, slice_get, true, false, Some, None, Ok, Err, ◌⊎◌}
use Rattle.journal.specs.Recovery.{has_line_end}
use Rattle.segment_files.specs.declared.last.LastSegment.{LastSegment}
use Rattle.segment_files.specs.declared.errors.SegmentError.TheVariants as segment
use Rattle.segment_files.specs.RemarkLaws.{AreLines, IsOneLine}
use Rattle.segment_files.specs.Last.{IsRightLast}
use Rattle.segment_files.specs.Torn.{HasBadLine, IsRightEnd}
use Rattle.held_locks.specs.Kept.{LockView}
use Rattle.name_remarks.specs.Remarks.{Binding, bind, IsRemark}
use Rattle.name_remarks.specs.Bindings.{Bindings, AreTakenIn, IsNotTakenIn}
use Rattle.name_remarks.specs.declared.recorded.NotTaken.{NotTaken}
use Rattle.judged_files.specs.Judging.{IsJudgedFolder, IsUnaccepted}
use Rattle.folder_of_locks.specs.declared.faults.StartFault.{StartFault}
use Rattle.folder_of_locks.specs.declared.faults.StartFault.TheVariants as fault

-- ---- the front of the file

-- the rest of a file that can be read begins with a line that no chain can have there
abbrev pub IsTornAfter : List ℕ → List ℕ → List ℕ → Type 0
IsTornAfter bytes front left_out =
    HasBadLine bytes front left_out × ((s : LastSegment) × IsRightEnd bytes (Ok s))

-- The first lines of a file: a chain can end with them. What is left out is half a line, or it is
-- torn.
pub record IsFront (bytes front : List ℕ) (s : LastSegment) : Type 0 where
  pub left_out : List ℕ
  pub spelled : bytes ≡ front ++ left_out
  pub lines : AreLines front
  pub right : IsRightLast front (Ok s)
  pub why : (has_line_end left_out ≡ false) ⊎ IsTornAfter bytes front left_out

-- the front says another number
abbrev pub HasOtherNumber : ℕ → List ℕ → Type 0
HasOtherNumber n bytes =
    (front : List ℕ) × (s : LastSegment) × IsFront bytes front s × (s.head.number ≢ n)

-- no chain can end with these bytes, or they say another number
abbrev pub IsFrontFault : ℕ → List ℕ → StartFault → Type 0
IsFrontFault n bytes (fault.Segment m e) =
    (m ≡ n)
    × (IsRightEnd bytes (Err e) ⊎ ((e ≡ segment.Number) × HasOtherNumber n bytes))
IsFrontFault n bytes fault.OutOfMemory = Unit {0}
IsFrontFault n bytes _ = ⊥

-- ---- the lines that are kept

-- nobody holds the lock of this ring, or there is none
abbrev pub IsUnheld : List LockView → ℕ → Type 0
IsUnheld vs ring = (v : LockView) → slice_get vs ring ≡ Some v → v.holder ≡ None

-- the line binds a ring that nobody holds: so it is new, and its grant was torn off
abbrev pub IsTornBinding : List LockView → List ℕ → Type 0
IsTornBinding vs line =
    (ring : ℕ) × (b : Binding) × IsRemark (bind ring b) line × IsUnheld vs ring

-- the last of these lines is no such binding
abbrev pub EndsWhole : List LockView → List ℕ → Type 0
EndsWhole vs front =
    (front ≡ [])
    ⊎ ((before : List ℕ)
    × (line : List ℕ)
    × (front ≡ before ++ line)
    × AreLines before
    × IsOneLine line
    × ¬ IsTornBinding vs line)

-- All lines are kept but a last one that is.
abbrev pub AreKeptLines : List LockView → List ℕ → List ℕ → Type 0
AreKeptLines vs front kept =
    ((kept ≡ front) × EndsWhole vs front)
    ⊎ ((line : List ℕ) × (front ≡ kept ++ line) × AreLines kept × IsTornBinding vs line)

-- ---- what they record

-- The lines before this one are taken in, and it is not; its number is from 1.
pub record IsFirstUntaken (lines : List (List ℕ)) (old : Bindings) (number : ℕ) (why : NotTaken)
    : Type 0 where
  pub front : List (List ℕ)
  pub line : List ℕ
  pub back : List (List ℕ)
  pub parts : lines ≡ front ++ line ∷ back
  pub mid : Bindings
  pub before : AreTakenIn front old mid
  pub untaken : IsNotTakenIn line mid why
  pub number_is : number ≡ length front + 1

-- the line of this number in the segment of this number is not taken in
abbrev pub IsLineFault : ℕ → ℕ → List ℕ → Bindings → StartFault → Type 0
IsLineFault n place line old (fault.Remark m number why) =
    (m ≡ n) × (number ≡ place) × IsNotTakenIn line old why
IsLineFault n place line old fault.OutOfMemory = Unit {0}
IsLineFault n place line old _ = ⊥

-- a line of the segment of this number is not
abbrev pub IsRemarkFault : ℕ → List (List ℕ) → Bindings → StartFault → Type 0
IsRemarkFault n lines old (fault.Remark m number why) =
    (m ≡ n) × IsFirstUntaken lines old number why
IsRemarkFault n lines old fault.OutOfMemory = Unit {0}
IsRemarkFault n lines old _ = ⊥

-- ---- what the judge of names says of them

-- The lines may be those of the only file of a folder with these fixed locks: nothing in them is
-- refused.
abbrev pub AreRightLines : List (List ℕ) → List ℕ → Type 0
AreRightLines fixed lines = IsJudgedFolder fixed (lines ∷ [])

-- they are those of the segment of this number, and are refused
abbrev pub AreWrongLines : List (List ℕ) → ℕ → List ℕ → StartFault → Type 0
AreWrongLines fixed n lines (fault.Judged m why) =
    (m ≡ n) × IsUnaccepted fixed None lines true why
AreWrongLines fixed n lines fault.OutOfMemory = Unit {0}
AreWrongLines fixed n lines _ = ⊥
