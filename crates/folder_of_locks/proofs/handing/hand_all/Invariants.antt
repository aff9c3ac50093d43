use Rattle.std.proofs.Common.{take, map}
use Rattle.folder_of_locks.specs.Holders.{hold_of, AreHandedBy}
use Rattle.folder_of_locks.proofs.handing.hand_all.Given as goal

abbrev pub invariant-loop-place : goal.invariant-loop-place
invariant-loop-place l = AreHandedBy l.names l.initial.locks (map hold_of (take l.place l.holders)) l.locks
