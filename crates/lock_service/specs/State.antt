-- The lines that bring locks back: their holds, and the clients that wait for them (this project's
-- own).
use Rattle.std.specs.Prelude.{ℕ, List}
use Rattle.lock_service.specs.declared.service.LockService.{LockService}
use Rattle.lock_journal.specs.State.{lines_of}

abbrev pub state_lines : LockService → List (List ℕ)
state_lines s = lines_of s.segment.names s.segment.locks
