use Rattle.std.proofs.Common.{◌≡◌, take}
use Rattle.lock_names.specs.Table.{bounds_of}
use Rattle.lock_names.proofs.table.copy_among.Given as goal

abbrev pub invariant-loop-binding : goal.invariant-loop-binding
invariant-loop-binding l = l.copy ≡ take l.binding-index (bounds_of l.bound)
