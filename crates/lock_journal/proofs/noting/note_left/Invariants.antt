use Rattle.std.proofs.Common.{◌≡◌, ◌++◌, take}
use Rattle.lock_journal.specs.Noting.{notes_of_left}
use Rattle.lock_journal.proofs.noting.note_left.Given as goal

abbrev pub invariant-loop-one : goal.invariant-loop-one
invariant-loop-one l = l.notes.items ≡ l.initial.notes.items ++ notes_of_left l.locks (take l.one-index l.left)
