use Rattle.bad_lines.proofs.SurveyLines.{AreSurveyed}
use Rattle.bad_lines.proofs.surveys.add_surveys.Given as goal

abbrev pub invariant-loop-i : goal.invariant-loop-i
invariant-loop-i l = AreSurveyed l.line l.start l.events l.surveys l.initial.out.items l.i l.mark l.out.items
