use Rattle.std.proofs.Common.{subst}
use Rattle.endless_ring.specs.Endless.{EndlessView, IsSurveyed}
use Rattle.endless_ring.proofs.Segments.{surveyed_is}
use Rattle.endless_ring.proofs.rings.EndlessRing.survey.Goals as goal

pub returns-clause-ok : goal.returns-clause-ok
returns-clause-ok c =
    subst (λ (x : EndlessView). IsSurveyed x (record { base = c.self.inside.base; ring = c.survey.new.self }) c.args.seat c.shift_survey.result) c.self.view_is
    (surveyed_is c.self.inside.base c.self.inside.quiet c.self.inside.ring c.survey.new.self c.args.seat c.in-Ok.survey c.shift_survey.result c.self.invariant
    c.in-Ok.ensures.ok c.in-Ok.ensures.told c.survey.ensures.book c.shift_survey.ensures)
