use Rattle.std.proofs.Common.{arith}
use Rattle.wrong_shared_bodies.proofs.Ends.{one_more}
use Rattle.wrong_shared_bodies.proofs.Farmed.{as_long}
use Rattle.wrong_shared_bodies.proofs.farms.action_that_is_made_twice.Goals as goal

pub returns : goal.returns
returns g c = record {
  wrong = λ p. omega (
    arith,
    as_long _ _ _ _ _ _ _ _ c.in_ok-ring.ensures.promised p c.in_ok-log.ensures.items c.in-Ok-push.ensures.items,
    one_more _ _ _ c.in-Ok.ensures.items,
  );
}
