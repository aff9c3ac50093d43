use Rattle.std.proofs.Common.{◌≤◌, length}
use Rattle.folder_of_locks.proofs.fronts.cut_front.Given as goal

abbrev pub invariant-cuts : goal.invariant-cuts
invariant-cuts l = l.end ≤ length l.bytes

abbrev pub decreases-cuts : goal.decreases-cuts
decreases-cuts l = l.end
