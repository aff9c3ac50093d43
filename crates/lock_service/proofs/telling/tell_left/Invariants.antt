use Rattle.std.proofs.Common.{◌≡◌, ◌++◌, take}
use Rattle.lock_journal.specs.Noting.{lines_of_left}
use Rattle.lock_service.proofs.telling.tell_left.Given as goal

abbrev pub invariant-loop-one : goal.invariant-loop-one
invariant-loop-one l = l.text.items ≡ l.initial.text.items ++ lines_of_left l.names (take l.one-index l.left)
