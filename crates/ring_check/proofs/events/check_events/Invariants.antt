use Rattle.ring_check.proofs.EventLines.{AreGood}
use Rattle.ring_check.proofs.events.check_events.Given as goal

abbrev pub invariant-loop-i : goal.invariant-loop-i
invariant-loop-i l = AreGood l.line l.k l.start l.events l.first l.i l.replay
