use Rattle.std.proofs.Common.{◌≡◌}
use Rattle.ring_settings.specs.Draws.{drawn, left_after}
use Rattle.ring_settings.proofs.draws.draw_plan.Given as goal

abbrev pub invariant-loop : goal.invariant-loop
invariant-loop g l = record {
  plan : l.plan.items ≡ drawn l.role l.rings l.counter (g.G.Rng.stream l.initial.g);
  words : g.G.Rng.stream l.g ≡ left_after l.counter (g.G.Rng.stream l.initial.g);
}
