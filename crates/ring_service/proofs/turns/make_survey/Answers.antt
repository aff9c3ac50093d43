use Rattle.std.proofs.Common.{ap, ◌∙◌}
use Rattle.endless_ring.specs.Endless.{local_survey}
use Rattle.ring_service.proofs.Refusing.{surveyed_turn}
use Rattle.ring_service.proofs.turns.make_survey.Goals as goal

pub returns-in-Ok-clause-turn : goal.returns-in-Ok-clause-turn
returns-in-Ok-clause-turn c =
    λ at. surveyed_turn c.args.ring.now c.survey.new.self at c.args.seat c.in-Ok.shifted c.glance-survey.result c.segment.ensures.endless c.in-Ok.ensures.ok
    (c.glance-survey.ensures ∙ ap local_survey c.segment.ensures.is) c.in-Ok.ensures.refused
