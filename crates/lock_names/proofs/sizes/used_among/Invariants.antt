use Rattle.std.proofs.Common.{◌≤◌, length}
use Rattle.lock_names.proofs.Sized.{AreFreeFrom}
use Rattle.lock_names.proofs.sizes.used_among.Given as goal

abbrev pub invariant-loop-end : goal.invariant-loop-end
invariant-loop-end l = record {
  least : l.fixed ≤ l.end;
  most : l.end ≤ length l.table;
  above : AreFreeFrom l.table l.end;
}

abbrev pub decreases-loop-end : goal.decreases-loop-end
decreases-loop-end l = l.end
