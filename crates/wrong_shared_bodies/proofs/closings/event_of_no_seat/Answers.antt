use Rattle.wrong_shared_bodies.proofs.Closed.{unused_seat}
use Rattle.wrong_shared_bodies.proofs.closings.event_of_no_seat.Goals as goal

pub returns : goal.returns
returns g c = record { wrong = λ p. unused_seat _ _ _ _ _ _ _ c.in-Ok-pass.ensures.ok c.requires.none p }
