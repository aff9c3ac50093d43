use Rattle.machine_masks.proofs.Marks.{AreMarkedTo}
use Rattle.machine_masks.proofs.privileges.privileged_machines.Given as goal

abbrev pub invariant-loop-machine : goal.invariant-loop-machine
invariant-loop-machine l = AreMarkedTo l.ring.values l.privileged l.machine
