use Rattle.std.proofs.Common.{◌≡◌, ap, ◌∙◌, arith}
use Rattle.ring_model.specs.History.{opening}
use Rattle.ring_model.specs.Surveys.{calm}
use Rattle.ring_model.specs.declared.events.Survey.{Survey}
use Rattle.wrong_bodies.proofs.Surveys.{calm_here, no_calm}
use Rattle.wrong_bodies.proofs.readers.keeps_the_calm_over_a_corruption.Goals as goal

pub returns : goal.returns
returns g c = record {
  wrong = λ e.
      let was : c.survey-calm.result.calm ≡ calm c.args.book.now.history = ap (λ (s : Survey). s.calm) c.survey-calm.ensures.is ∙ calm_here g.R.Resource.works (opening c.args.book.now.start g.R.Resource.first) c.args.book.now.history in
      let now : c.survey-calm.result.calm ≡ 0 = no_calm g.R.Resource.works (opening c.corrupt.new.self.start g.R.Resource.first) c.args.book.now c.corrupt.new.self _ _ _ _ _ e c.in_ok-corrupt.ensures.ok in
      let some = c.requires.some in
      omega arith;
}
