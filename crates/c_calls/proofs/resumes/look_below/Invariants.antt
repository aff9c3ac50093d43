use Rattle.std.proofs.Common.{◌<◌, take}
use Rattle.std.specs.List.{All}
use Rattle.saved_history.specs.declared.saved.SavedSurvey.{SavedSurvey}
use Rattle.c_calls.proofs.resumes.look_below.Given as goal

abbrev pub invariant-loop-survey : goal.invariant-loop-survey
invariant-loop-survey l = All (λ (e : SavedSurvey). e.seat < l.seats) (take l.survey-index l.surveys)
