use Rattle.std.proofs.Common.{◌≡◌, ◌++◌, take}
use Rattle.folder_of_locks.specs.NameRings.{repair_lines}
use Rattle.folder_of_locks.proofs.missing_lines.put_repairs.Given as goal

abbrev pub invariant-loop-place : goal.invariant-loop-place
invariant-loop-place l = l.text.items ≡ l.fn.text.items ++ repair_lines 0 (take l.place l.rings) l.locks
