-- The last file of a chain with a torn end (this project's own).
use Rattle.std.specs.Prelude.{◌≡◌, ℕ, ◌<◌, ◌≤◌, ◌⊎◌, Bool, true, false, List, ◌++◌, length, map, take, drop, Option, Some, None, is_some, Result, Ok, Err}
use Rattle.std.specs.List.{list_any}
use Rattle.text_lines.specs.Texts.{line_of}
use Rattle.saved_history.specs.Content.{content}
use Rattle.journal.specs.Spelling.{Journal, journal_text}
use Rattle.journal.specs.Prefixes.{IsRightJournal}
use Rattle.segment_files.specs.declared.last.LastSegment.{LastSegment}
use Rattle.segment_files.specs.declared.errors.SegmentError.{SegmentError}
use Rattle.segment_files.specs.declared.errors.SegmentError.TheVariants as segment
use Rattle.segment_files.specs.Spelling.{Head, HeadFits, head_text}
use Rattle.segment_files.specs.Remarks.{lines_in, without_remarks}
use Rattle.segment_files.specs.RemarkLaws.{AreLines, IsOneLine}
use Rattle.segment_files.specs.Last.{IsRightLast}
use Rattle.segment_files.specs.TornSigns.{reached_by, can_follow}

-- the line that a refusal names, if it names one
abbrev pub named_line : SegmentError → Option ℕ
named_line (segment.Syntax line) = Some line
named_line (segment.Bad line kind) = Some line
named_line _ = None

abbrev pub names_line : SegmentError → Bool
names_line e = is_some (named_line e)

-- The bytes have a bad line after this front: with it, whatever comes then, they are refused. It is
-- the first of what is left out.
pub record HasBadLine (bytes front left_out : List ℕ) : Type 0 where
  pub spelled : bytes ≡ front ++ left_out
  pub begins : AreLines front
  pub line : List ℕ
  pub behind : List ℕ
  pub first : left_out ≡ line ++ behind
  pub whole : IsOneLine line
  pub why : SegmentError
  pub named : names_line why ≡ true
  pub refused : IsRightLast (front ++ line) (Err why)

-- a line of these bytes can follow where the segment ends: each has a byte, so that as many lines
-- come before it at most
abbrev pub has_later : LastSegment → List ℕ → Bool
has_later s left_out =
    list_any (can_follow (map reached_by (content s.saved).rings) (length left_out))
    (lines_in left_out)

-- The end is torn: a chain can end with the front, as it was read; all bytes are refused by a line,
-- and after the bad one none can follow.
pub record IsTorn (bytes : List ℕ) (s : LastSegment) : Type 0 where
  pub front : List ℕ
  pub left_out : List ℕ
  pub bad : HasBadLine bytes front left_out
  pub right : IsRightLast front (Ok s)
  pub none : has_later s left_out ≡ false
  pub why : SegmentError
  pub named : names_line why ≡ true
  pub refused : IsRightLast bytes (Err why)

-- no chain can end with the front, which has no bad line; or one can, and a line that is left out can
-- follow
abbrev pub IsNoTear : List ℕ → List ℕ → Type 0
IsNoTear front left_out =
    ((e : SegmentError) × IsRightLast front (Err e) × (names_line e ≡ false))
    ⊎ ((s : LastSegment) × IsRightLast front (Ok s) × (has_later s left_out ≡ true))

-- A line begins at this place, which a refusal names: of all bytes, or of the first of them.
pub record IsBadFrom (bytes : List ℕ) (place : ℕ) : Type 0 where
  pub most : ℕ
  pub longer : place < most
  pub within : most ≤ length bytes
  pub begins : AreLines (take place bytes)
  pub why : SegmentError
  pub named : named_line why ≡ Some (line_of bytes place)
  pub refused : IsRightLast (take most bytes) (Err why)

-- the file is damaged: it has a bad line, and its end is not torn there
pub record IsDamaged (bytes : List ℕ) : Type 0 where
  pub place : ℕ
  pub bad : IsBadFrom bytes place
  pub why : IsNoTear (take place bytes) (drop place bytes)

-- The right answer, memory aside: the file with which a chain may end, as it is or without a torn
-- end; or the right refusal of all bytes, and if it names a line they are damaged.
abbrev pub IsRightEnd : List ℕ → Result LastSegment SegmentError → Type 0
IsRightEnd bytes (Ok s) = IsRightLast bytes (Ok s) ⊎ IsTorn bytes s
IsRightEnd bytes (Err e) =
    IsRightLast bytes (Err e) × ((names_line e ≡ false) ⊎ IsDamaged bytes)

-- A law: of a file that begins with a head and with a right journal, remarks in it or not, the front
-- of a torn end has all of that, whatever comes after it.
abbrev pub ToldLinesStay : Type 0
ToldLinesStay =
    (h : Head) (j : Journal) (told tail : List ℕ) (s : LastSegment) → HeadFits h
    → IsRightJournal j → AreLines told → without_remarks told ≡ journal_text j
    → (torn : IsTorn (head_text h ++ (told ++ tail)) s)
    → (more : List ℕ) × (torn.front ≡ (head_text h ++ told) ++ more)

-- A law: such a file with nothing after the journal has no torn end.
abbrev pub WholeFilesStay : Type 0
WholeFilesStay =
    (h : Head) (j : Journal) (told : List ℕ) (s : LastSegment) → HeadFits h → IsRightJournal j
    → AreLines told → without_remarks told ≡ journal_text j → IsTorn (head_text h ++ told) s → ⊥
