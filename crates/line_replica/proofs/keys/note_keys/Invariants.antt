use Rattle.std.proofs.Common.{◌≡◌, ◌++◌}
use Rattle.line_replica.specs.State.{key_lines, remarks_of}
use Rattle.line_replica.proofs.keys.note_keys.Given as goal

-- the remarks of the keys that are left are still to be added
abbrev pub invariant-loop-key : goal.invariant-loop-key
invariant-loop-key l = l.text.items ++ remarks_of (key_lines l.key-iterator) ≡ l.initial.text.items ++ remarks_of (key_lines l.keys.entries)
