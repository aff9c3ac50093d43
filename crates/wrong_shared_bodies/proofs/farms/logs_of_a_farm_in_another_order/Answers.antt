use Rattle.wrong_shared_bodies.proofs.Ends.{two_steps}
use Rattle.wrong_shared_bodies.proofs.Farmed.{logs_in_order}
use Rattle.wrong_shared_bodies.proofs.farms.logs_of_a_farm_in_another_order.Goals as goal

pub returns : goal.returns
returns g c = record {
  wrong = λ p. logs_in_order _ _ _ _ _ c.pop-2.new.self.items c.in_ok-before.before c.in_ok-last.last c.in_ok-ring.ensures.promised p
      (two_steps _ c.pop.new.self.items c.pop-2.new.self.items c.in_ok-before.before c.in_ok-last.last c.in_ok-last.ensures.items c.in_ok-before.ensures.items)
      (two_steps c.push-2.new.self.items c.push.new.self.items c.pop-2.new.self.items c.in_ok-last.last c.in_ok-before.before c.in-Ok-push.ensures.items c.in-Ok.ensures.items);
}
