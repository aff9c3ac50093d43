use Rattle.std.proofs.Common.{ap, sym, ◌∙◌}
use Rattle.ring_model.specs.Ring.{rest}
use Rattle.ring_model.specs.declared.events.Survey.{Survey}
use Rattle.wrong_bodies.proofs.Surveys.{rest_here}
use Rattle.wrong_bodies.proofs.readers.surveys_the_rest_at_the_start.Goals as goal

pub returns : goal.returns
returns g c = record {
  wrong = λ e. c.requires.apart
      (ap rest (sym c.start.ensures.is) ∙ (sym c.rest.ensures.is ∙ (ap (λ (s : Survey). s.rest) e ∙ rest_here _ _ c.args.book.now c.survey.ensures.book)));
}
