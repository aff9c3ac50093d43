-- Locks with which a segment begins, and lines that are answered from there (this project's own).
use Rattle.std.specs.Prelude.{ℕ, List, true, Some, ◌≡◌, slice_get, ◌++◌, ◌<◌, ◌^◌}
use Rattle.std.specs.List.{AllByRecursion}
use Rattle.saved_history.specs.Spelling.{Fits}
use Rattle.journal.specs.Spelling.{journal_head}
use Rattle.held_locks.specs.declared.answers.Waiter.{Waiter}
use Rattle.held_locks.specs.Promises.{token_of}
use Rattle.held_locks.specs.Kept.{LockView, AreKept}
use Rattle.held_locks.specs.Opened.{open_in}
use Rattle.line_service.specs.Answering.{Answers}
use Rattle.lock_journal.specs.declared.terms.Terms.{Terms}
use Rattle.lock_journal.specs.Answering.{IsLineAnswered}
use Rattle.lock_journal.specs.Counting.{SegmentView}
use Rattle.lock_journal.specs.Segments.{content_of}

-- the text with which the journal of a segment begins, after the head of its file
abbrev pub begun_text : List LockView → List ℕ
begun_text vs = journal_head (content_of vs)

-- those who wait asked with orders of 64 bits
abbrev pub AreSmall : List Waiter → Type 0
AreSmall line = AllByRecursion (λ (w : Waiter). w.label < 2 ^ 64) line

-- the hold that is open in the history of the lock's ring is the lock's
pub record IsBegun (v : LockView) : Type 0 where
  pub shown : open_in v.ring ≡ token_of v.holder
  pub small : AreSmall v.queue

-- locks with which a segment begins: each ring shows the hold of its lock, and the rings have a
-- text
pub record HaveBegun (vs : List LockView) : Type 0 where
  pub entries : List (ℕ × ℕ)
  pub kept : AreKept vs entries
  pub each : (i : ℕ) (v : LockView) → slice_get vs i ≡ Some v → IsBegun v
  pub text : Fits (content_of vs)

-- Lines are answered one after the other, with this text, and these are the notes for the journal.
pub record AreAnswered (terms : Terms) (old : SegmentView) (lines : List (List ℕ))
    (said noted : List ℕ) (new : SegmentView) : Type 0 where
  pub noting : terms.noting ≡ true
  pub answers : Answers (IsLineAnswered terms) old lines said noted new

abbrev pub AnsweredLinesFollow : Type 0
AnsweredLinesFollow =
    (terms : Terms) (old mid new : SegmentView) (lines more : List (List ℕ))
    (said noted unsaid notes : List ℕ) → AreAnswered terms old lines said noted mid
    → AreAnswered terms mid more unsaid notes new
    → AreAnswered terms old (lines ++ more) (said ++ unsaid) (noted ++ notes) new
