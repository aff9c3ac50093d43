use Rattle.std.proofs.Common.{◌≡◌, ◌++◌, take}
use Rattle.lock_names.specs.Table.{bounds_of}
use Rattle.lock_names.proofs.restoring.add_pool_names.Given as goal

abbrev pub invariant-loop-binding : goal.invariant-loop-binding
invariant-loop-binding l = l.table ≡ l.fn.table ++ take l.binding-index (bounds_of l.pool)
