use Rattle.std.proofs.Common.{◌≡◌, ◌+◌, ◌<◌, ◌^◌, ◌++◌, length, drop}
use Rattle.line_service.specs.Answering.{joined_lines}
use Rattle.lock_journal.specs.State.{waits_from}
use Rattle.lock_service.proofs.stating.put_waits.Given as goal

-- the lines of the locks from this one on are still to be added
abbrev pub invariant-loop-lock : goal.invariant-loop-lock
invariant-loop-lock l =
    (l.text.items ++ joined_lines (waits_from l.names l.lock (drop l.lock l.locks)) ≡ l.initial.text.items ++ joined_lines (waits_from l.names 0 l.locks))
    × (l.count + length (waits_from l.names l.lock (drop l.lock l.locks)) ≡ l.before + length (waits_from l.names 0 l.locks))
    × (l.count < 2 ^ 63)
