use Rattle.std.proofs.Common.{◌≡◌, ◌≤◌, length, map}
use Rattle.folder_of_locks.specs.Lists.{listed}
use Rattle.folder_of_locks.specs.Rings.{AreEachBegun}
use Rattle.folder_of_locks.proofs.rings.locks_of.Given as goal

abbrev pub invariant-loop-place : goal.invariant-loop-place
invariant-loop-place l = (length l.locks ≡ l.place) × (l.place ≤ length l.list) × AreEachBegun l.bases l.rings (map listed l.list) l.locks
