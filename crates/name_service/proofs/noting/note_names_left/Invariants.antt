use Rattle.std.proofs.Common.{◌≡◌, ◌++◌, take}
use Rattle.name_service.specs.Noting.{notes_of_names_left}
use Rattle.name_service.proofs.noting.note_names_left.Given as goal

abbrev pub invariant-loop-one : goal.invariant-loop-one
invariant-loop-one l = l.notes.items ≡ l.initial.notes.items ++ notes_of_names_left l.names.fixed l.names.locks (take l.one-index l.left)
