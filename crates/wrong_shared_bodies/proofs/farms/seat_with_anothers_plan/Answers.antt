use Rattle.std.proofs.Common.{refl}
use Rattle.wrong_shared_bodies.proofs.Ends.{two_steps}
use Rattle.wrong_shared_bodies.proofs.Farmed.{own_plans}
use Rattle.wrong_shared_bodies.proofs.farms.seat_with_anothers_plan.Goals as goal

pub returns : goal.returns
returns g c = record {
  wrong = λ p. c.requires.apart (own_plans _ _ _ _ _ c.pop-2.new.self.items c.in_ok-before.before c.in_ok-last.last _ _ c.in_ok-ring.ensures.promised p
      (two_steps _ c.pop.new.self.items c.pop-2.new.self.items c.in_ok-before.before c.in_ok-last.last c.in_ok-last.ensures.items c.in_ok-before.ensures.items)
      (two_steps c.push-2.new.self.items c.push.new.self.items c.pop-2.new.self.items _ _ c.in-Ok-push.ensures.items c.in-Ok.ensures.items) refl);
}
