use Rattle.std.proofs.Common.{◌≡◌, ◌+◌, ◌≤◌, ◌++◌, length, drop}
use Rattle.line_service.specs.Answering.{joined_lines}
use Rattle.name_service.specs.State.{name_holds}
use Rattle.name_service.proofs.stating.put_holds.Given as goal

-- the lines of the rings from this one on are still to be added
abbrev pub invariant-loop-ring : goal.invariant-loop-ring
invariant-loop-ring l =
    (l.text.items ++ joined_lines (name_holds (drop l.ring l.names.names) (drop l.ring l.names.locks)) ≡ l.initial.text.items ++ joined_lines (name_holds l.names.names l.names.locks))
    × (l.count + length (name_holds (drop l.ring l.names.names) (drop l.ring l.names.locks)) ≡ length (name_holds l.names.names l.names.locks))
    × (l.count ≤ l.ring)
