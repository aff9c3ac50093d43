use Rattle.saved_history.proofs.Passing.{WroteBelow}
use Rattle.one_thread_ring.proofs.Saved.{surveys_text, SurveysFit}
use Rattle.one_thread_ring.proofs.saving.put_survey_lines.Given as goal

abbrev pub invariant-loop-survey : goal.invariant-loop-survey
invariant-loop-survey g l = WroteBelow (surveys_text l.seat) (SurveysFit l.seat) (g.W.Write.contents l.initial.out) (g.W.Write.contents l.out) l.surveys l.survey-index
