use Rattle.std.proofs.Common.{◌∙◌}
use Rattle.ring_shared.proofs.Folding.{survey_of_is, calm_tells}
use Rattle.ring_shared.proofs.rings.Ring.glance.Goals as goal

pub returns-clause-told : goal.returns-clause-told
returns-clause-told g c = c.glance.ensures.survey ∙ survey_of_is g.R.Resource.works g.N.Name.start g.R.Resource.first c.glance.new.self.seen

pub returns-clause-legal_and_whole : goal.returns-clause-legal_and_whole
returns-clause-legal_and_whole g c = (c.self.invariant.means_legal c.glance.new.self.seen).0 c.glance.ensures.legal

pub returns-clause-calm : goal.returns-clause-calm
returns-clause-calm g c =
    calm_tells g.R.Resource.works g.N.Name.start g.R.Resource.first c.glance.new.self.seen c.glance.result c.self.invariant.start_ring.ring
    ((c.self.invariant.means_legal c.glance.new.self.seen).0 c.glance.ensures.legal).0 c.glance.ensures.survey
