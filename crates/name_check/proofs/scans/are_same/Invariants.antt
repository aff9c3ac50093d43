use Rattle.name_check.proofs.Scanning.{SameBefore}
use Rattle.name_check.proofs.scans.are_same.Given as goal

abbrev pub invariant-loop-i : goal.invariant-loop-i
invariant-loop-i l = SameBefore l.i l.known l.rings
