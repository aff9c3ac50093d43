use Rattle.std.proofs.Common.{drop}
use Rattle.ring_model.specs.Groups.{Rises}
use Rattle.one_thread_ring.proofs.rings.rise.Given as goal

abbrev pub invariant-loop-machine : goal.invariant-loop-machine
invariant-loop-machine l = record {
  whole : Rises l.low l.n (drop l.machine-index l.machines) → Rises 0 l.n l.machines;
  rest : Rises 0 l.n l.machines → Rises l.low l.n (drop l.machine-index l.machines);
}
