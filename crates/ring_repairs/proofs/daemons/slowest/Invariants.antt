use Rattle.std.proofs.Common.{◌≡◌}
use Rattle.ring_model.specs.Ring.{is_privileged}
use Rattle.ring_repairs.specs.Daemons.{rest_after, slowest_below}
use Rattle.ring_repairs.proofs.daemons.slowest.Given as goal

abbrev pub invariant-loop-machine : goal.invariant-loop-machine
invariant-loop-machine l = record {
  same : l.ring ≡ l.initial.ring;
  slowest : l.slowest ≡ slowest_below l.initial.ring l.machine;
  most : l.most ≡ rest_after l.initial.ring l.slowest;
}
