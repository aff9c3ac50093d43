use Rattle.std.proofs.Common.{◌≡◌, ◌++◌, take}
use Rattle.std.specs.List.{flat_map}
use Rattle.name_service.proofs.Said.{lines_left}
use Rattle.name_service.proofs.noting.tell_names_left.Given as goal

abbrev pub invariant-loop-one : goal.invariant-loop-one
invariant-loop-one l = l.text.items ≡ l.initial.text.items ++ flat_map (lines_left l.names.names) (take l.one-index l.left)
