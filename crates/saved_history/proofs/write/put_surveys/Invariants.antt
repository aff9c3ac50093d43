use Rattle.saved_history.proofs.Passing.{WroteBelow}
use Rattle.saved_history.proofs.ValueParts.{surveys_text, SurveysFit}
use Rattle.saved_history.proofs.write.put_surveys.Given as goal

abbrev pub invariant-loop-survey : goal.invariant-loop-survey
invariant-loop-survey g l = WroteBelow surveys_text SurveysFit (g.W.Write.contents l.initial.out) (g.W.Write.contents l.out) l.surveys l.survey-index
