use Rattle.name_check.proofs.Scanning.{NoneBefore}
use Rattle.name_check.proofs.scans.first_held.Given as goal

abbrev pub invariant-loop-at : goal.invariant-loop-at
invariant-loop-at l = NoneBefore l.low l.at l.rings
