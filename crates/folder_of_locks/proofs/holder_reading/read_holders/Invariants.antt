use Rattle.std.proofs.Common.{length, map}
use Rattle.folder_of_locks.specs.Holders.{hold_of}
use Rattle.folder_of_locks.proofs.Lines.{HasRead}
use Rattle.folder_of_locks.proofs.holder_reading.read_holders.Given as goal

abbrev pub invariant-loop-rest : goal.invariant-loop-rest
invariant-loop-rest l = HasRead l.bytes (map hold_of l.holders.items) l.rest

abbrev pub decreases-loop-rest : goal.decreases-loop-rest
decreases-loop-rest l = length l.rest
