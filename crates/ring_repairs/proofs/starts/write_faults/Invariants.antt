use Rattle.std.proofs.Common.{◌≡◌, length}
use Rattle.ring_state.specs.Sizes.{size_of}
use Rattle.ring_repairs.proofs.Starting.{Written}
use Rattle.ring_repairs.proofs.starts.write_faults.Given as goal

abbrev pub invariant-loop-machine : goal.invariant-loop-machine
invariant-loop-machine l = record {
  same : l.ring.k ≡ l.initial.ring.k;
  long : length l.ring.values ≡ length l.initial.ring.values;
  written : Written (size_of l.initial.ring) l.place l.faults l.initial.words l.initial.ring.values l.machine l.left l.words l.ring.values;
}
