use Rattle.std.proofs.Common.{◌≡◌, false, take}
use Rattle.lock_journal.specs.Due.{has_short}
use Rattle.lock_journal.proofs.due.has_short.Given as goal

abbrev pub invariant-loop-lock : goal.invariant-loop-lock
invariant-loop-lock l = has_short (take l.lock l.locks) ≡ false
