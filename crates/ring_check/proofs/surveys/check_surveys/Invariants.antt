use Rattle.ring_check.proofs.SurveyLines.{AreRight}
use Rattle.ring_check.proofs.surveys.check_surveys.Given as goal

abbrev pub invariant-loop-i : goal.invariant-loop-i
invariant-loop-i l = AreRight l.line l.k l.start l.events l.surveys l.i l.seat l.position l.reading
