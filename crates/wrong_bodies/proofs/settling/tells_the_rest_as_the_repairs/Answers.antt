use Rattle.std.proofs.Common.{sym, ◌∙◌, ap}
use Rattle.ring_model.specs.Ring.{rest}
use Rattle.wrong_bodies.proofs.settling.tells_the_rest_as_the_repairs.Goals as goal

pub returns : goal.returns
returns g c = record { wrong = λ q. c.requires.more (sym (c.rest-most.ensures.is ∙ ap rest c.state.ensures.is) ∙ q) }
