use Rattle.std.proofs.Common.{◌≡◌, ◌-◌, take}
use Rattle.lock_journal.specs.Counting.{lines_at_start}
use Rattle.lock_journal.proofs.counting.after_start.Given as goal

abbrev pub invariant-loop-lock : goal.invariant-loop-lock
invariant-loop-lock l = l.more ≡ l.remaining - lines_at_start (take l.lock l.locks)
