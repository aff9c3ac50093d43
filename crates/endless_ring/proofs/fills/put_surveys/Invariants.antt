use Rattle.one_thread_ring.proofs.Saved.{surveys_text, SurveysFit}
use Rattle.endless_ring.proofs.Filled.{FilledBelow}
use Rattle.endless_ring.proofs.fills.put_surveys.Given as goal

abbrev pub invariant-loop-survey : goal.invariant-loop-survey
invariant-loop-survey l = FilledBelow (surveys_text l.seat) (SurveysFit l.seat) l.initial.out l.out l.place l.behind l.surveys l.survey-index
