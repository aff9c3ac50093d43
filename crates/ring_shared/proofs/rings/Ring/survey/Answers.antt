use Rattle.std.proofs.Common.{◌∙◌}
use Rattle.ring_shared.proofs.Folding.{survey_of_is, calm_tells}
use Rattle.ring_shared.proofs.rings.Ring.survey.Goals as goal

pub returns-clause-told : goal.returns-clause-told
returns-clause-told g c = c.in_ok-survey.ensures.survey ∙ survey_of_is g.R.Resource.works g.N.Name.start g.R.Resource.first c.survey.new.self.seen

pub returns-clause-calm : goal.returns-clause-calm
returns-clause-calm g c =
    calm_tells g.R.Resource.works g.N.Name.start g.R.Resource.first c.survey.new.self.seen c.in_ok-survey.survey c.self.invariant.start_ring.ring
    ((c.self.invariant.means_legal c.survey.new.self.seen).0 c.survey.ensures.legal).0 c.in_ok-survey.ensures.survey
