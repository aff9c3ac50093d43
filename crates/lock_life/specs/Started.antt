-- Locks that a folder's last segment starts are those that are found in it (this project's own).
use Rattle.std.specs.Prelude.{ℕ, List, true, Option, None, Some, ◌≡◌, [], length, ◌⊎◌, ◌++◌, ◌≤◌}
use Rattle.std.specs.List.{AllByRecursion}
use Rattle.disks.specs.Held.{Held, bytes_of, is_there}
use Rattle.line_service.specs.SegmentNames.{segment_file, IsNumber}
use Rattle.saved_history.specs.declared.saved.Saved.{Saved}
use Rattle.saved_history.specs.Content.{content}
use Rattle.saved_history.specs.Spelling.{Fits}
use Rattle.journal.specs.Spelling.{Journal, journal_text}
use Rattle.journal.specs.Prefixes.{IsRightJournal}
use Rattle.journal.specs.Recovery.{IsRecovered}
use Rattle.segment_files.specs.Spelling.{HeadFits, Head, head_text}
use Rattle.segment_files.specs.Remarks.{without_remarks}
use Rattle.segment_files.specs.RemarkLaws.{AreLines}
use Rattle.segment_files.specs.declared.last.LastSegment.{LastSegment}
use Rattle.segment_files.specs.Torn.{IsTorn}
use Rattle.ring_service.specs.Segments.{bases_of}
use Rattle.ring_service.specs.Recovered.{IsPrefix}
use Rattle.held_locks.specs.Kept.{LockView, AreKept}
use Rattle.folder_of_locks.specs.Holders.{Hold, AreHandedBy}
use Rattle.folder_of_locks.specs.Lists.{Listed}
use Rattle.folder_of_locks.specs.Rings.{AreBegun}
use Rattle.folder_of_locks.specs.Folders.{Place, AreStarted}
use Rattle.lock_journal.specs.Begun.{HaveBegun}
use Rattle.lock_journal.specs.Segments.{rings_of, content_of}
use Rattle.lock_life.specs.Life.{AreFound}

-- A law: with no lock more than there were, the locks that start of what is recovered of a journal are
-- found there.
abbrev pub StartedLocksAreFound : Type 0
StartedLocksAreFound =
    (start found : List LockView) (journal : List ℕ) (saved : Saved) (locks : List Listed)
    → IsRecovered journal (content saved)
    → AreBegun (bases_of (rings_of start)) saved.rings.items locks found
    → length locks ≡ length saved.rings.items → length locks ≡ length start
    → AreFound start journal found

-- ---- in a folder

-- the head of the file of a segment that begins with these locks, after a file of this digest
abbrev pub head_with : ℕ → List ℕ → List LockView → Head
head_with number behind locks = record {
  number = number;
  behind = behind;
  bases = bases_of (rings_of locks);
}

-- The last segment of the folder is the one of this number, which began with these locks. The head
-- with which it began has a text, and after it these bytes are kept of the file.
pub record IsKeptLast (held : Held) (folder : List ℕ) (number : ℕ) (behind : List ℕ)
    (start : List LockView) (kept : List ℕ) : Type 0 where
  pub fits : HeadFits (head_with number behind start)
  pub file : bytes_of held (segment_file folder number)
      ≡ Some (head_text (head_with number behind start) ++ kept)
  pub last : (n : ℕ) → IsNumber n → is_there held (segment_file folder n) ≡ true → n ≤ number

-- the end is torn, and this is the front
abbrev pub IsTornAfter : ℕ → List ℕ → List LockView → List ℕ → List ℕ → Type 0
IsTornAfter number behind start kept front =
    (s : LastSegment)
    × (torn : IsTorn (head_text (head_with number behind start) ++ kept) s)
    × (torn.front ≡ head_text (head_with number behind start) ++ front)

-- of what is kept a start takes these bytes: all, or those before a torn end
abbrev pub IsTakenOf : ℕ → List ℕ → List LockView → List ℕ → List ℕ → Type 0
IsTakenOf number behind start kept front =
    (front ≡ kept) ⊎ IsTornAfter number behind start kept front

-- a lock that is new: no client waits for it, and none holds it
abbrev pub IsNew : LockView → Type 0
IsNew v = (v.queue ≡ []) × (v.holder ≡ None)

-- Locks start in that segment: those that are found in what is kept of it, or before a torn end, and
-- new ones after them. Then each of these open holds was handed to its client. That front has each
-- right journal which is kept, whatever comes after it.
pub record StartThere (number : ℕ) (behind : List ℕ) (start : List LockView) (kept : List ℕ)
    (holders : List Hold) (p : Place) : Type 0 where
  pub number_is : p.number ≡ number
  pub behind_is : p.behind ≡ behind
  pub front : List ℕ
  pub left_out : List ℕ
  pub parts : kept ≡ front ++ left_out
  pub end : (left_out ≡ []) ⊎ IsTornAfter number behind start kept front
  pub stays : (j : Journal) (told more : List ℕ) → IsRightJournal j → AreLines told
      → without_remarks told ≡ journal_text j → kept ≡ told ++ more → IsPrefix told front
  pub locks : List LockView
  pub added : List LockView
  pub found : AreFound start (without_remarks front) locks
  pub new : AllByRecursion IsNew added
  pub handed : AreHandedBy p.names (locks ++ added) holders p.locks

-- A law: what is kept of a folder's last segment starts the next run.
abbrev pub KeptSegmentsStart : Type 0
KeptSegmentsStart =
    (held : Held) (folder : List ℕ) (number : ℕ) (behind : List ℕ) (start : List LockView)
    (kept : List ℕ) (word : Option (List ℕ)) (holders : List Hold) (after : Option Held)
    (p : Place) → IsKeptLast held folder number behind start kept
    → AreStarted folder word holders (Some held) after p
    → StartThere number behind start kept holders p

-- A law: locks that are found begin a segment, if they are kept and have a text.
abbrev pub FoundLocksBegin : Type 0
FoundLocksBegin =
    (start found : List LockView) (journal : List ℕ) (entries : List (ℕ × ℕ))
    → AreFound start journal found → AreKept found entries → Fits (content_of found)
    → HaveBegun found

-- A law: locks that start in a folder begin a segment, if they are kept and have a text: new ones
-- among them, and with holds that are handed over.
abbrev pub StartedLocksBegin : Type 0
StartedLocksBegin =
    (folder : List ℕ) (word : Option (List ℕ)) (holders : List Hold)
    (before after : Option Held) (p : Place) (entries : List (ℕ × ℕ))
    → AreStarted folder word holders before after p → AreKept p.locks entries
    → Fits (content_of p.locks) → HaveBegun p.locks
