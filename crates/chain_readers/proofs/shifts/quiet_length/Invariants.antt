use Rattle.chain_readers.proofs.Quiet.{Quiet}
use Rattle.chain_readers.proofs.shifts.quiet_length.Given as goal

abbrev pub invariant-loop-i : goal.invariant-loop-i
invariant-loop-i l = Quiet l.events l.i
