use Rattle.std.proofs.Common.{◌≡◌, ◌++◌, drop, length}
use Rattle.ring_repairs.specs.Starts.{drawn_values, after_values}
use Rattle.ring_repairs.proofs.starts.write_any.Given as goal

abbrev pub invariant-loop-machine : goal.invariant-loop-machine
invariant-loop-machine l = record {
  same : l.ring.k ≡ l.initial.ring.k;
  values : l.ring.values ≡ drawn_values l.initial.ring.k l.initial.words l.machine ++ drop l.machine l.initial.ring.values;
  words : l.words ≡ after_values l.initial.ring.k l.initial.words l.machine;
  long : length l.ring.values ≡ length l.initial.ring.values;
}
