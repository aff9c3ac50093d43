use Rattle.std.proofs.Common.{◌∙◌, subst}
use Rattle.std.specs.Prelude.{Option}
use Rattle.ring_model.specs.declared.events.Survey.{Survey}
use Rattle.ring_shared.specs.Folds.{AnswersFor}
use Rattle.ring_shared.proofs.Folding.{survey_of_summary}
use Rattle.ring_shared.proofs.seats.answer.Goals as goal

pub returns-in-Some : goal.returns-in-Some
returns-in-Some g c =
    (subst (λ (o : Option Survey). AnswersFor g.N.Name.start c.args.front.now o c.args.summary.now.ring c.args.summary.now.position c.args.summary.now.calm) c.in-Some.is c.requires).0

pub returns-in-None : goal.returns-in-None
returns-in-None g c =
    c.survey.ensures ∙ survey_of_summary g.N.Name.start c.args.front.now c.args.summary.now.ring c.args.summary.now.position c.args.summary.now.calm
    (subst (λ (o : Option Survey). AnswersFor g.N.Name.start c.args.front.now o c.args.summary.now.ring c.args.summary.now.position c.args.summary.now.calm) c.in-None.is c.requires)
