-- Equal locks that are given equal lines (this project's own).
use Rattle.std.specs.Prelude.{◌≡◌, ℕ, true, List, Option}
use Rattle.disks.specs.Held.{Held}
use Rattle.line_service.specs.Answering.{Answers}
use Rattle.line_service.specs.Stands.{by_stand, stand}
use Rattle.lock_service.specs.declared.service.LockService.{LockService}
use Rattle.lock_service.specs.Serving.{IsServed}
use Rattle.lock_service.specs.Segmented.{IsNext}
use Rattle.lock_journal.specs.Equal.{AreEqualSegments}
use Rattle.lock_journal.specs.Segments.{segment_text}

-- two services in the same state, on the same terms
pub record AreEqual (a b : LockService) : Type 0 where
  pub segment : AreEqualSegments a.segment b.segment
  pub terms : b.terms ≡ a.terms
  pub stage : b.stage ≡ a.stage

-- A law: on strict terms two services in the same state, whatever memory each has, answer the same
-- lines with the same text and the same notes, and are in the same state again.
abbrev pub EqualLinesGiveEqualAnswers : Type 0
EqualLinesGiveEqualAnswers =
    (a b c d : LockService) (before after was is : Option Held) (lines : List (List ℕ))
    (said noted told kept : List ℕ) → a.terms.strict ≡ true → AreEqual a b
    → Answers (by_stand IsServed) (stand a before) lines said noted (stand c after)
    → Answers (by_stand IsServed) (stand b was) lines told kept (stand d is)
    → (told ≡ said) × (kept ≡ noted) × AreEqual c d

-- A law: if their segments end, the next ones begin with the same text, and are in the same state.
abbrev pub EqualSegmentsEndEqually : Type 0
EqualSegmentsEndEqually =
    (a b c d : LockService) (number : ℕ) (behind : List ℕ) → AreEqual a b → IsNext a c → IsNext b d
    → AreEqual c d
    × (segment_text number behind d.segment.locks ≡ segment_text number behind c.segment.locks)
