use Rattle.std.proofs.Common.{◌≡◌, ◌≤◌, ◌-◌, take, drop}
use Rattle.lock_names.specs.Table.{bounds_of}
use Rattle.folder_of_locks.specs.NameRings.{names_held}
use Rattle.folder_of_locks.proofs.name_rings.names_held.Given as goal

abbrev pub invariant-loop-ring : goal.invariant-loop-ring
invariant-loop-ring l = record {
  low : l.fixed ≤ l.ring;
  names : bounds_of l.names.items ≡ names_held l.fixed l.recorded.rings (take (l.ring - l.fixed) (drop l.fixed l.locks));
}
