use Rattle.std.proofs.Common.{take, map}
use Rattle.folder_of_locks.specs.Holders.{hold_of}
use Rattle.folder_of_locks.specs.NameHolders.{AreHandedByName}
use Rattle.folder_of_locks.proofs.name_handing.hand_names.Given as goal

abbrev pub invariant-loop-place : goal.invariant-loop-place
invariant-loop-place l = AreHandedByName l.initial.names (map hold_of (take l.place l.holders)) l.names
