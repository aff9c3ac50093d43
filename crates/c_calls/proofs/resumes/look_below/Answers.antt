use Rattle.std.proofs.Common.{◌≤◌, ◌<◌, List, length, refl, subst, arith}
use Rattle.std.specs.List.{All}
use Rattle.std.proofs.lemmas.List.{take_all}
use Rattle.std.proofs.lemmas.List.Elements.{All-more}
use Rattle.saved_history.specs.declared.saved.SavedSurvey.{SavedSurvey}
use Rattle.c_calls.proofs.resumes.look_below.Goals as goal

pub loop-survey-preserved : goal.loop-survey-preserved
loop-survey-preserved c =
    All-more (λ (e : SavedSurvey). e.seat < c.args.seats) c.args.surveys.now c.loop-survey.survey-index _ c.loop-survey-test.true c.loop-survey.invariant c.if-survey-seats.false

pub returns : goal.returns
returns c =
    let past = c.loop-survey-test.false in
    let end = c.loop-survey.auto.survey-index-end in
    let all : length c.args.surveys.now ≤ c.loop-survey.survey-index = omega (arith, past, end) in
    (λ t. subst (λ (u : List SavedSurvey). All (λ (e : SavedSurvey). e.seat < c.args.seats) u) (take_all c.loop-survey.survey-index c.args.surveys.now all) c.loop-survey.invariant, λ a. refl)
