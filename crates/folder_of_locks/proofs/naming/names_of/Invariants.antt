use Rattle.std.proofs.Common.{◌≡◌, take, map}
use Rattle.folder_of_locks.specs.Lists.{listed, names_of}
use Rattle.folder_of_locks.proofs.naming.names_of.Given as goal

abbrev pub invariant-loop-lock : goal.invariant-loop-lock
invariant-loop-lock l = l.names ≡ names_of (map listed (take l.lock-index l.list))
