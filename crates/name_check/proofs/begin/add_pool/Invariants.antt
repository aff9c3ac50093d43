use Rattle.std.proofs.Common.{◌≡◌, ◌-◌, ◌++◌, length}
use Rattle.name_bindings.specs.Bindings.{frees}
use Rattle.name_check.proofs.begin.add_pool.Given as goal

abbrev pub invariant-loop-table : goal.invariant-loop-table
invariant-loop-table l = l.table ++ frees (l.count - length l.table) ≡ l.fn.table ++ frees (l.count - length l.fn.table)

abbrev pub decreases-loop-table : goal.decreases-loop-table
decreases-loop-table l = l.count - length l.table
