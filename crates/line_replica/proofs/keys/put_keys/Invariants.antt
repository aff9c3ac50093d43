use Rattle.std.proofs.Common.{◌≡◌, ◌++◌}
use Rattle.line_service.specs.Answering.{joined_lines}
use Rattle.line_replica.specs.State.{key_lines}
use Rattle.line_replica.proofs.keys.put_keys.Given as goal

-- the lines of the keys that are left are still to be added
abbrev pub invariant-loop-key : goal.invariant-loop-key
invariant-loop-key l = l.text.items ++ joined_lines (key_lines l.key-iterator) ≡ l.initial.text.items ++ joined_lines (key_lines l.keys.entries)
