-- How each line is answered (this project's own).
use Rattle.std.specs.Prelude.{◌≡◌, ℕ, false, ◌&&◌, List, Option}
use Rattle.held_locks.specs.Kept.{AreKept}
use Rattle.lock_protocol.specs.Views.{Input}
use Rattle.disks.specs.Held.{Held}
use Rattle.lock_service.specs.declared.service.LockService.{LockService}
use Rattle.lock_journal.specs.Answering.{IsLineAnswered, IsInputAnswered}
use Rattle.lock_journal.specs.Stages.{is_to_end, is_past, stage_after}

-- on strict terms no line is answered in a segment that is to end
abbrev pub IsOpen : LockService → Type 0
IsOpen s = (s.terms.strict && is_to_end s.stage) ≡ false

-- what was read of a line is answered by the service, on the same terms
pub record AnswersInput (old : LockService) (i : Input) (said noted : List ℕ) (new : LockService) :
    Type 0 where
  pub goes : IsOpen old
  pub answered : IsInputAnswered old.terms i old.segment said noted new.segment
  pub terms : new.terms ≡ old.terms
  pub stage : new.stage ≡ stage_after old.stage (is_past old.terms new.segment)

-- the locks of the service are kept
abbrev pub IsKept : LockService → Type 0
IsKept s = (entries : List (ℕ × ℕ)) × AreKept s.segment.locks entries

-- from one state of the service to another a line was answered, on the same terms; no file has
-- changed, and the locks are kept
pub record IsServed (old : LockService) (was : Option Held) (line said noted : List ℕ)
    (new : LockService) (is : Option Held) : Type 0 where
  pub goes : IsOpen old
  pub answered : IsLineAnswered old.terms old.segment line said noted new.segment
  pub terms : new.terms ≡ old.terms
  pub stage : new.stage ≡ stage_after old.stage (is_past old.terms new.segment)
  pub files : is ≡ was
  pub kept : IsKept new
