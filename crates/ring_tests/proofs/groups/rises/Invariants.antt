use Rattle.std.proofs.Common.{drop}
use Rattle.ring_model.specs.Groups.{Rises}
use Rattle.ring_tests.proofs.groups.rises.Given as goal

abbrev pub invariant-loop-machine : goal.invariant-loop-machine
invariant-loop-machine l = Rises l.least l.limit (drop l.machine-index l.machines) → Rises 0 l.limit l.machines
