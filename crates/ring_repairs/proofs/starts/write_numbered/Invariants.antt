use Rattle.std.proofs.Common.{◌≡◌, ◌-◌, ◌++◌, ◌∷◌, take, length}
use Rattle.ring_repairs.specs.Starts.{digits}
use Rattle.ring_repairs.proofs.starts.write_numbered.Given as goal

abbrev pub invariant-loop-machine : goal.invariant-loop-machine
invariant-loop-machine l = record {
  same : l.ring.k ≡ l.initial.ring.k;
  long : length l.ring.values ≡ length l.initial.ring.values;
  values : take l.machine l.ring.values ++ digits l.k l.left (length l.ring.values - l.machine) ≡ 0 ∷ digits l.k l.initial.left (length l.ring.values - 1);
}
