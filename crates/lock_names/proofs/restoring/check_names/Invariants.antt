use Rattle.lock_names.proofs.Restores.{AreRightNames}
use Rattle.lock_names.proofs.restoring.check_names.Given as goal

abbrev pub invariant-loop-ring : goal.invariant-loop-ring
invariant-loop-ring l = AreRightNames l.fixed l.top l.locks l.table l.ring
