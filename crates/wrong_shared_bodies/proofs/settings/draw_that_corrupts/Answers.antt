use Rattle.std.proofs.Common.{sym, ◌∙◌}
use Rattle.wrong_shared_bodies.proofs.Drawn.{roles_apart}
use Rattle.wrong_shared_bodies.proofs.settings.draw_that_corrupts.Goals as goal

pub returns : goal.returns
returns g c = record { wrong = λ p. roles_apart c.args.rings.now c.args.actions _ c.requires.one (sym c.in_ok-plan.ensures.plan ∙ p) }
