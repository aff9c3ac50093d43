use Rattle.std.proofs.Common.{◌≡◌, ◌-◌, take}
use Rattle.folder_of_locks.specs.NameRings.{grants_before}
use Rattle.folder_of_locks.proofs.name_rings.grants_since.Given as goal

abbrev pub invariant-loop-base : goal.invariant-loop-base
invariant-loop-base l = l.left ≡ l.total - grants_before (take l.base-index l.bases)
