-- Locks with which a segment begins, and lines that are answered from there (this project's own).
use Rattle.std.specs.Prelude.{◌≡◌, ℕ, true, List, Option}
use Rattle.disks.specs.Held.{Held}
use Rattle.line_service.specs.Answering.{Answers}
use Rattle.line_service.specs.Stands.{by_stand, stand}
use Rattle.lock_service.specs.declared.service.LockService.{LockService}
use Rattle.lock_service.specs.Serving.{IsServed}
use Rattle.lock_journal.specs.Begun.{AreAnswered}

-- ---- laws: lines that the service answers are answered so, and no file changes; and it may be
-- stopped between lines

abbrev pub ServedLinesAreAnswered : Type 0
ServedLinesAreAnswered =
    (old new : LockService) (was is : Option Held) (lines : List (List ℕ)) (said noted : List ℕ)
    → old.terms.noting ≡ true
    → Answers (by_stand IsServed) (stand old was) lines said noted (stand new is)
    → AreAnswered old.terms old.segment lines said noted new.segment × (is ≡ was)
