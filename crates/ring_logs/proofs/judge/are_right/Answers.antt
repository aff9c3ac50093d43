use Rattle.std.proofs.Common.{◌≡◌, ℕ, ◌<◌, true, false, All, List, Some, length, get_or, slice_index_or, subst, ap, sym, ◌∙◌, refl, arith}
use Rattle.std.proofs.lemmas.List.{take_all}
use Rattle.std.proofs.lemmas.List.Elements.{All-more}
use Rattle.std.proofs.lemmas.Option.{slice_get-get_or}
use Rattle.ring_model.specs.History.{opening}
use Rattle.ring_model.specs.Logs.{IsSurvey}
use Rattle.ring_model.specs.declared.events.Survey.{Survey}
use Rattle.ring_logs.proofs.judge.are_right.Goals as goal

abbrev some_survey : Survey
some_survey = record { position = 0; privileged = 0; first = 0; calm = 0; rest = 0 }

false_true : {A : Type 0} → false ≡ true → A
false_true e = cc

same_at : (xs : List Survey) (i : ℕ) (d e : Survey) → i < length xs → get_or xs i d ≡ get_or xs i e
same_at xs i d e within =
    let one = slice_get-get_or xs i d within in
    let other = slice_get-get_or xs i e within in
    let both : Some (get_or xs i d) ≡ Some (get_or xs i e) = sym one ∙ other in
    cc

pub returns-then-not-pass_survey : goal.returns-then-not-pass_survey
returns-then-not-pass_survey g c =
    let inv = c.loop-survey.invariant in
    let here = inv.ahead c.loop-survey.survey-index some_survey (omega arith) c.loop-survey-test.true in (
      λ t. false_true t,
      λ all. false_true (sym c.if-not-pass_survey.true ∙ c.pass_survey.ensures.right.1 (rw inv.same_book (here, all c.loop-survey.survey-index some_survey c.loop-survey-test.true))),
    )

pub loop-survey-preserved : goal.loop-survey-preserved
loop-survey-preserved g c =
    let inv = c.loop-survey.invariant in
    let passed = c.pass_survey.ensures.right.0 c.if-not-pass_survey.false in
    let here : IsSurvey g.R.Resource.works (opening c.args.book.now.start g.R.Resource.first) c.args.book.now.history (slice_index_or c.args.surveys.now c.loop-survey.survey-index some_survey) =
    rw (sym inv.same_book) passed.1 in
    record {
      same_book = c.pass_survey.ensures.book ∙ inv.same_book;
      right = All-more (IsSurvey g.R.Resource.works (opening c.args.book.now.start g.R.Resource.first) c.args.book.now.history) c.args.surveys.now c.loop-survey.survey-index some_survey c.loop-survey-test.true inv.right here;
      ahead = λ k d le lt.
          let front = c.pass_survey.ensures.front c.if-not-pass_survey.false in
          let same = ap (λ (s : Survey). s.position) (same_at c.args.surveys.now c.loop-survey.survey-index some_survey d c.loop-survey-test.true) in
          let up = c.requires c.loop-survey.survey-index k d (omega arith) lt in
          omega arith;
    }

pub returns : goal.returns
returns g c =
    let past = c.loop-survey-test.false in (
      λ t. subst (λ (ss : List Survey). All (IsSurvey g.R.Resource.works (opening c.args.book.now.start g.R.Resource.first) c.args.book.now.history) ss) (take_all c.loop-survey.survey-index c.args.surveys.now (omega arith)) c.loop-survey.invariant.right,
      λ h. refl,
    )
