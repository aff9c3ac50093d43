-- The file of a ring's segment, its journal, and the next segment, for C (this project's own).
use Rattle.std.specs.Prelude.{◌≡◌, ◌≢◌, ℕ, ◌<◌, ◌≤◌, ◌⊎◌, true, false, List, [], ◌∷◌, ◌++◌, length, drop, Result, Ok, Err}
use Rattle.saved_history.specs.declared.saved.SavedRing.{SavedRing}
use Rattle.ring_model.specs.declared.bases.Base.{Base}
use Rattle.segment_files.specs.declared.errors.SegmentError.{SegmentError}
use Rattle.segment_files.specs.declared.errors.SegmentError.TheVariants as segment
use Rattle.segment_files.specs.declared.last.LastSegment.{LastSegment}
use Rattle.segment_files.specs.Last.{IsRightLast}
use Rattle.endless_ring.specs.Files.{FilesView, file_text, IsFileText, IsNextFile, HasNoNext, new_lines, kept_now, filed_at}
use Rattle.c_calls.specs.declared.kept.Kept.{Kept}
use Rattle.c_calls.specs.declared.kept.Kept.TheVariants.{Till, Idle}
use Rattle.c_calls.specs.declared.codes.TextError.{TextError}
use Rattle.c_calls.specs.declared.codes.TextError.TheVariants as text
use Rattle.c_calls.specs.Codes.{kind_code, no_memory, history_full, too_small, no_till, many_rings}
use Rattle.c_calls.specs.Reports.{HasNoSize}
use Rattle.c_calls.specs.Resumed.{IsResumedAs, IsRingRefused}

-- ---- texts

-- The text of the file of the ring's segment; there is none of a ring that is over no till, and no
-- memory for one of 2^64 - 1 bytes or more.
abbrev pub IsFileAnswer : Kept → Result (List ℕ) TextError → Type 0
IsFileAnswer (Till d) (Ok bytes) = IsFileText d bytes
IsFileAnswer (Till d) (Err text.OutOfMemory) = HasNoSize (file_text d.place d.ring)
IsFileAnswer (Idle d) (Err text.NoTill) = Unit {0}
IsFileAnswer _ _ = ⊥

-- The lines that the journal of the segment does not have; there are none where none is kept.
abbrev pub IsLinesAnswer : Kept → Result (List ℕ) TextError → Type 0
IsLinesAnswer (Till d) (Ok bytes) = (d.notes.kept ≡ true) × (bytes ≡ new_lines d)
IsLinesAnswer (Till d) (Err text.NoJournal) = d.notes.kept ≡ false
IsLinesAnswer (Till d) (Err text.OutOfMemory) = (d.notes.kept ≡ true) × HasNoSize (new_lines d)
IsLinesAnswer (Idle d) (Err text.NoTill) = Unit {0}
IsLinesAnswer _ _ = ⊥

-- from now on a journal is kept, which has all of the segment so far
abbrev pub kept_after : Kept → Kept
kept_after (Till d) = Till (kept_now d)
kept_after (Idle d) = Idle d

-- ---- the next segment

-- The segment was sealed: its file's text was written, and the ring continues in the next one, whose
-- file comes after these bytes.
abbrev pub IsSealed : Kept → Kept → List ℕ → Type 0
IsSealed (Till d) (Till e) bytes = IsFileText d bytes × IsNextFile d bytes e
IsSealed _ _ bytes = ⊥

-- It was not, for this reason: the ring is over no till; it has no next segment; memory ran out.
abbrev pub IsNotSealed : Kept → ℕ → Type 0
IsNotSealed (Till d) code = ((code ≡ history_full) × HasNoNext d) ⊎ (code ≡ no_memory)
IsNotSealed (Idle d) code = code ≡ no_till

-- Of a cut: the sealed segment's text is at the front of the buffer; or the buffer is too small, and
-- its size is said; or nothing is written. Except after a cut that is done the ring is as it was.
abbrev pub IsCutReport : Kept → Kept → ℕ → List ℕ → List ℕ → ℕ → ℕ → Type 0
IsCutReport old new code was out size said =
    ((bytes : List ℕ)
    × (code ≡ 0)
    × IsSealed old new bytes
    × (length bytes ≤ length was)
    × (out ≡ bytes ++ drop (length bytes) was)
    × (said ≡ length bytes))
    ⊎ (((bytes : List ℕ)
    × (code ≡ too_small)
    × (length was < length bytes)
    × (out ≡ was)
    × (said ≡ length bytes)
    × (new ≡ old))
    ⊎ (IsNotSealed old code × (out ≡ was) × (said ≡ size) × (new ≡ old)))

-- ---- the last file of a chain, to resume from

-- the code of bytes that are not a file with which a chain ends
abbrev pub no_chain : ℕ
no_chain = 52

-- the code of each way in which bytes are not the last file of a chain
abbrev pub segment_code : SegmentError → ℕ
segment_code segment.Truncated = 49
segment_code (segment.Syntax line) = 48
segment_code (segment.Bad line kind) = kind_code kind
segment_code segment.Number = no_chain
segment_code segment.Behind = no_chain
segment_code segment.Base = no_chain
segment_code segment.Start = no_chain
segment_code segment.Full = history_full
segment_code segment.Unfinished = no_chain
segment_code segment.OutOfMemory = no_memory

-- the line that a refusal names, 0 if it names none
abbrev pub segment_line : SegmentError → ℕ
segment_line (segment.Syntax line) = line
segment_line (segment.Bad line kind) = line
segment_line _ = 0

-- a file of one ring, with the ring and its base
pub record IsOfOne (last : LastSegment) (ring : SavedRing) (base : Base) : Type 0 where
  pub alone : last.saved.rings.items ≡ ring ∷ []
  pub based : last.head.bases.items ≡ base ∷ []

-- the bytes are a file with which a chain may end, of one ring; this ring resumes where that ended,
-- after its base, and its segment is that file
pub record IsGoneOn (bytes : List ℕ) (seats : ℕ) (d : FilesView) : Type 0 where
  pub last : LastSegment
  pub saved : SavedRing
  pub base : Base
  pub right : IsRightLast bytes (Ok last)
  pub one : IsOfOne last saved base
  pub resumed : IsResumedAs saved seats d.ring.ring
  pub filed : d
      ≡ filed_at (record { number = last.head.number; behind = last.head.behind }) base d.ring.ring

-- the same of what C holds, which is over a till
abbrev pub IsGoneOnBy : List ℕ → ℕ → Kept → Type 0
IsGoneOnBy bytes seats (Till d) = IsGoneOn bytes seats d
IsGoneOnBy bytes seats (Idle d) = ⊥

-- a file that is read is not gone on from: it is not of one ring, or its ring is not resumed
abbrev pub IsLastRefused : LastSegment → ℕ → ℕ → Type 0
IsLastRefused last seats code =
    ((code ≡ many_rings) × (length last.saved.rings.items ≢ 1))
    ⊎ ((saved : SavedRing) × (last.saved.rings.items ≡ saved ∷ []) × IsRingRefused saved seats code)

-- The bytes are not such a file, with the line that is reported; or they are, and any code but 0 says
-- why the ring is not resumed.
abbrev pub IsSegmentAnswer : List ℕ → ℕ → ℕ → ℕ → Type 0
IsSegmentAnswer bytes seats code line =
    ((error : SegmentError)
    × IsRightLast bytes (Err error)
    × (code ≡ segment_code error)
    × (line ≡ segment_line error))
    ⊎ ((last : LastSegment)
    × IsRightLast bytes (Ok last)
    × (line ≡ 0)
    × (code ≢ 0 → IsLastRefused last seats code))
