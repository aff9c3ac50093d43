use Rattle.std.proofs.Common.{ap, ◌∙◌}
use Rattle.ring_state.specs.Sizes.{Size}
use Rattle.farm_in_turn.proofs.Beginning.{opened}
use Rattle.farm_in_turn.proofs.rings.open_ring.Goals as goal

pub returns-in-Ok-clause-begun : goal.returns-in-Ok-clause-begun
returns-in-Ok-clause-begun c =
    opened c.args.settings.now c.args.ring c.args.seats c.k.result c.start-start.result.now c.in-Ok.ring c.in-Ok.ensures.fresh.0 c.in-Ok.ensures.fresh.1
    (c.k.ensures.is ∙ ap (λ (s : Size). s.k) c.params-size.ensures.is) c.start-start.ensures.is
