use Rattle.std.proofs.Common.{◌≡◌, ◌-◌, take}
use Rattle.lock_journal.specs.Counting.{count_of_all}
use Rattle.lock_journal.proofs.counting.after_left.Given as goal

abbrev pub invariant-loop-one : goal.invariant-loop-one
invariant-loop-one l = l.more ≡ l.remaining - count_of_all l.locks (take l.one-index l.left)
