use Rattle.std.proofs.Common.{◌*◌, ◌≤◌}
use Rattle.machine_masks.specs.Privileges.{AreMarked}
use Rattle.ring_repairs.proofs.Choices.{Repairs}
use Rattle.ring_repairs.proofs.repairing.repair.Given as goal

abbrev pub invariant-loop : goal.invariant-loop
invariant-loop l = record {
  run : Repairs l.daemon l.most l.passes l.initial.memory l.memory l.initial.ring l.ring l.counter;
  asked : l.memory.asked ≤ 1024 * l.passes;
  marked : AreMarked l.ring.values l.privileged;
}
