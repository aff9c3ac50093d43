use Rattle.wrong_shared_bodies.proofs.Ends.{two_steps}
use Rattle.wrong_shared_bodies.proofs.Closed.{numbered_swapped}
use Rattle.wrong_shared_bodies.proofs.closings.logs_in_another_order.Goals as goal

pub returns : goal.returns
returns g c = record {
  wrong = λ p. numbered_swapped c.in-Ok.closed.logs.items c.push-2.new.self.items c.pop-2.new.self.items c.in_ok-before.before c.in_ok-last.last c.in-Ok.ensures.logs.1 p.1
      (two_steps c.in-Ok.closed.logs.items c.pop.new.self.items c.pop-2.new.self.items c.in_ok-before.before c.in_ok-last.last c.in_ok-last.ensures.items c.in_ok-before.ensures.items)
      (two_steps c.push-2.new.self.items c.push.new.self.items c.pop-2.new.self.items c.in_ok-last.last c.in_ok-before.before c.in-Ok-push-2.ensures.items c.in-Ok-push.ensures.items);
}
