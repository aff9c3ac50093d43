use Rattle.std.proofs.Common.{◌≡◌, map, take, string_bytes}
use Rattle.folder_of_locks.specs.Lists.{listed, names_of}
use Rattle.folder_of_locks.proofs.name_rings.texts_of.Given as goal

abbrev pub invariant-loop-lock : goal.invariant-loop-lock
invariant-loop-lock l = map string_bytes l.names.items ≡ names_of (map listed (take l.lock-index l.list))
