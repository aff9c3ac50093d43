use Rattle.std.proofs.Common.{arith}
use Rattle.wrong_shared_bodies.proofs.Closed.{numbered_last}
use Rattle.wrong_shared_bodies.proofs.closings.log_of_another_seat.Goals as goal

pub returns : goal.returns
returns g c = record {
  wrong = λ p. omega (
    arith,
    numbered_last c.in-Ok.closed.logs.items c.push.new.self.items c.pop.new.self.items c.in_ok-last.last _ c.in-Ok.ensures.logs.1 p.1 c.in_ok-last.ensures.items c.in-Ok-push.ensures.items,
  );
}
