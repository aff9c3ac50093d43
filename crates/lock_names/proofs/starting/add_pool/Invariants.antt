use Rattle.std.proofs.Common.{◌≡◌, ◌-◌, ◌≤◌, ◌++◌, length}
use Rattle.name_bindings.specs.Bindings.{frees}
use Rattle.lock_names.proofs.starting.add_pool.Given as goal

abbrev pub invariant-loop-table : goal.invariant-loop-table
invariant-loop-table l = record {
  made : l.table ++ frees (l.count - length l.table) ≡ l.fn.table ++ frees (l.count - length l.fn.table);
  most : length l.table ≤ l.count;
}

abbrev pub decreases-loop-table : goal.decreases-loop-table
decreases-loop-table l = l.count - length l.table
