use Rattle.std.proofs.Common.{take, map}
use Rattle.std.specs.List.{flat_map}
use Rattle.std.specs.Io.KnownBytes.{Appends}
use Rattle.folder_of_locks.specs.Lists.{listed, lock_line}
use Rattle.folder_of_locks.proofs.writing.put_list.Given as goal

abbrev pub invariant-loop-lock : goal.invariant-loop-lock
invariant-loop-lock g l = Appends (g.W.Write.contents l.initial.out) (g.W.Write.contents l.out) (flat_map lock_line (map listed (take l.lock-index l.locks)))
