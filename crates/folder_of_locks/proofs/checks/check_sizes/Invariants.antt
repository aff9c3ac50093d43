use Rattle.std.proofs.Common.{take, map}
use Rattle.std.specs.List.{All}
use Rattle.ring_state.specs.Sizes.{IsSize}
use Rattle.folder_of_locks.specs.Lists.{listed, size_of}
use Rattle.folder_of_locks.proofs.checks.check_sizes.Given as goal

abbrev pub invariant-loop-place : goal.invariant-loop-place
invariant-loop-place l = All IsSize (map size_of (map listed (take l.place l.locks)))
