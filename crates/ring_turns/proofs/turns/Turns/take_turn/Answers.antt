use Rattle.ring_model.specs.History.{opening}
use Rattle.ring_turns.specs.Spared.{spared}
use Rattle.ring_turns.proofs.Looks.{is_turn}
use Rattle.ring_turns.proofs.turns.Turns.take_turn.Goals as goal

pub returns-clause-turn : goal.returns-clause-turn
returns-clause-turn g c =
    let works = spared g.R.Resource.works in
    let a = opening g.N.Name.start g.R.Resource.first in
    is_turn works a c.args.seat.now c.ask.new.seat c.await_turn.new.seat c.in-Ok.asked_at c.args.order c.in_ok-receipt.receipt
    c.in-Ok.ensures.place c.in-Ok.ensures.logged c.ask.ensures.number c.ask.ensures.later c.await_turn.ensures.later c.in_ok-receipt.ensures.told
