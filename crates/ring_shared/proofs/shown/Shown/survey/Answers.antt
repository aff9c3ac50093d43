use Rattle.std.proofs.Common.{ap, ◌∙◌, List}
use Rattle.ring_model.specs.declared.events.Event.{Event}
use Rattle.ring_shared.specs.Folds.{survey_of}
use Rattle.ring_shared.proofs.Folding.{survey_of_summary}
use Rattle.ring_shared.proofs.shown.Shown.survey.Goals as goal

pub returns : goal.returns
returns g c =
    c.survey.ensures ∙ (survey_of_summary g.N.Name.start c.self.inside.front c.self.inside.summary.ring c.self.inside.summary.position c.self.inside.summary.calm c.self.invariant
    ∙ ap (λ (h : List Event). survey_of g.N.Name.start h) c.self.view_is)
