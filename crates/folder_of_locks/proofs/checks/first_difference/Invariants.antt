use Rattle.std.proofs.Common.{◌≡◌, ◌≤◌, take, map, length}
use Rattle.folder_of_locks.specs.Lists.{listed}
use Rattle.folder_of_locks.proofs.checks.first_difference.Given as goal

abbrev pub invariant-loop-place : goal.invariant-loop-place
invariant-loop-place l = (map listed (take l.place l.new) ≡ map listed (take l.place l.old)) × (l.place ≤ length l.new)
