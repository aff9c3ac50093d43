use Rattle.std.proofs.Common.{◌∙◌, ap}
use Rattle.endless_ring.specs.Endless.{EndlessView, survey_now}
use Rattle.endless_ring.proofs.Segments.{survey_is}
use Rattle.endless_ring.proofs.rings.EndlessRing.glance.Goals as goal

pub returns : goal.returns
returns c =
    survey_is c.self.inside.base c.self.inside.quiet c.self.inside.ring c.glance.result c.shift_survey.result c.self.invariant c.glance.ensures c.shift_survey.ensures
    ∙ ap (λ (x : EndlessView). survey_now x) c.self.view_is
