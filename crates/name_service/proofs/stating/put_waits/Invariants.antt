use Rattle.std.proofs.Common.{◌≡◌, ◌+◌, ◌<◌, ◌^◌, ◌++◌, length, drop}
use Rattle.line_service.specs.Answering.{joined_lines}
use Rattle.name_service.specs.State.{name_waits}
use Rattle.name_service.proofs.stating.put_waits.Given as goal

-- the lines of the rings from this one on are still to be added
abbrev pub invariant-loop-ring : goal.invariant-loop-ring
invariant-loop-ring l =
    (l.text.items ++ joined_lines (name_waits (drop l.ring l.names.names) (drop l.ring l.names.locks)) ≡ l.initial.text.items ++ joined_lines (name_waits l.names.names l.names.locks))
    × (l.count + length (name_waits (drop l.ring l.names.names) (drop l.ring l.names.locks)) ≡ l.before + length (name_waits l.names.names l.names.locks))
    × (l.count < 2 ^ 63)
