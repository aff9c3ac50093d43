use Rattle.wrong_shared_bodies.proofs.Ends.{two_steps}
use Rattle.wrong_shared_bodies.proofs.Farmed.{rings_swapped}
use Rattle.wrong_shared_bodies.proofs.farms.rings_in_another_order.Goals as goal

pub returns : goal.returns
returns g c = record {
  wrong = λ p. c.requires.apart (rings_swapped _ _ _ c.pop-2.new.self.items c.in_ok-before.before c.in_ok-last.last c.in-Ok.ensures.headline p
      (two_steps _ c.pop.new.self.items c.pop-2.new.self.items c.in_ok-before.before c.in_ok-last.last c.in_ok-last.ensures.items c.in_ok-before.ensures.items)
      (two_steps c.push-2.new.self.items c.push.new.self.items c.pop-2.new.self.items c.in_ok-last.last c.in_ok-before.before c.in-Ok-push-2.ensures.items c.in-Ok-push.ensures.items));
}
