use Rattle.wrong_shared_bodies.proofs.Farmed.{call_more}
use Rattle.wrong_shared_bodies.proofs.farms.event_that_no_plan_has.Goals as goal

pub returns : goal.returns
returns g c = record {
  wrong = λ p. call_more _ _ _ _ _ _ c.in_ok-ring.ensures.seats c.in_ok-ring.ensures.promised p c.in-Ok.ensures.ok.grown c.in-Ok.ensures.ok.of_seat;
}
