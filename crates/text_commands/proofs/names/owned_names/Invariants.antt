use Rattle.std.proofs.Common.{◌≡◌, map, take}
use Rattle.std.specs.Prelude.{string_bytes}
use Rattle.folder_of_locks.specs.Lists.{listed, names_of}
use Rattle.text_commands.proofs.names.owned_names.Given as goal

abbrev pub invariant-loop-lock : goal.invariant-loop-lock
invariant-loop-lock l = map string_bytes l.names.items ≡ names_of (map listed (take l.lock-index l.locks))
