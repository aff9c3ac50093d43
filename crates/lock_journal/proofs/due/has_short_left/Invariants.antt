use Rattle.std.proofs.Common.{◌≡◌, false, take}
use Rattle.lock_journal.specs.Due.{has_short_left}
use Rattle.lock_journal.proofs.due.has_short_left.Given as goal

abbrev pub invariant-loop-one : goal.invariant-loop-one
invariant-loop-one l = has_short_left l.locks (take l.one-index l.left) ≡ false
