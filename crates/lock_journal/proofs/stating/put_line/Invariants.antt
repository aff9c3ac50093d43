use Rattle.std.proofs.Common.{◌≡◌, ◌++◌, drop, Some, slice_get}
use Rattle.line_service.specs.Answering.{joined_lines}
use Rattle.held_locks.specs.Kept.{LockView}
use Rattle.lock_journal.specs.State.{wait_lines}
use Rattle.lock_journal.proofs.stating.put_line.Given as goal

-- the lines of those after this place are still to be added
abbrev pub invariant-loop-place : goal.invariant-loop-place
invariant-loop-place l =
    (v : LockView) → slice_get l.locks l.lock ≡ Some v → l.text.items ++ joined_lines (wait_lines l.name (drop l.place v.queue)) ≡ l.initial.text.items ++ joined_lines (wait_lines l.name v.queue)
