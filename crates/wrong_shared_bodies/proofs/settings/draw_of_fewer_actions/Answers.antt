use Rattle.std.proofs.Common.{sym, ◌∙◌}
use Rattle.wrong_shared_bodies.proofs.Drawn.{fewer_drawn}
use Rattle.wrong_shared_bodies.proofs.settings.draw_of_fewer_actions.Goals as goal

pub returns : goal.returns
returns g c = record { wrong = λ p. fewer_drawn c.args.role c.args.rings.now c.args.actions _ c.requires.one (sym c.in_ok-plan.ensures.plan ∙ p) }
