-- Equal names that are given equal lines (this project's own).
use Rattle.std.specs.Prelude.{◌≡◌, ℕ, true, List, Option}
use Rattle.disks.specs.Held.{Held}
use Rattle.line_service.specs.Answering.{Answers}
use Rattle.line_service.specs.Stands.{by_stand, stand}
use Rattle.lock_journal.specs.Equal.{AreEqualLocks}
use Rattle.name_service.specs.declared.service.NameService.{NameService}
use Rattle.name_service.specs.Naming.{NamingView}
use Rattle.name_service.specs.Serving.{IsNameServed}

-- the same rings, with the same names, in segments that are as far from their end; each ring may
-- have memory for more or fewer events
pub record AreEqualNames (a b : NamingView) : Type 0 where
  pub locks : AreEqualLocks a.named.locks b.named.locks
  pub names : b.named.names ≡ a.named.names
  pub fixed : b.named.fixed ≡ a.named.fixed
  pub top : b.named.top ≡ a.named.top
  pub remaining : b.remaining ≡ a.remaining
  pub short : b.short ≡ a.short

-- two services in the same state, on the same terms
pub record AreEqualServices (a b : NameService) : Type 0 where
  pub segment : AreEqualNames a.segment b.segment
  pub terms : b.terms ≡ a.terms
  pub stage : b.stage ≡ a.stage

-- A law: on strict terms two services in the same state, whatever memory each has, answer the same
-- lines about names with the same text and the same notes, and are in the same state again.
abbrev pub EqualNameLinesGiveEqualAnswers : Type 0
EqualNameLinesGiveEqualAnswers =
    (a b c d : NameService) (before after was is : Option Held) (lines : List (List ℕ))
    (said noted told kept : List ℕ) → a.terms.lines.strict ≡ true → AreEqualServices a b
    → Answers (by_stand IsNameServed) (stand a before) lines said noted (stand c after)
    → Answers (by_stand IsNameServed) (stand b was) lines told kept (stand d is)
    → (told ≡ said) × (kept ≡ noted) × AreEqualServices c d
