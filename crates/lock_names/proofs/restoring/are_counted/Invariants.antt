use Rattle.std.proofs.Common.{◌≡◌, ◌+◌}
use Rattle.held_locks.specs.Kept.{locks_of}
use Rattle.lock_names.proofs.Begins.{total_before}
use Rattle.lock_names.proofs.restoring.are_counted.Given as goal

abbrev pub invariant-loop-lock : goal.invariant-loop-lock
invariant-loop-lock l = l.room + total_before l.lock (locks_of l.locks) ≡ l.top
