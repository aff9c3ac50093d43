use Rattle.std.proofs.Common.{refl}
use Rattle.ring_service.proofs.Counting.{too_large_with}
use Rattle.ring_service.proofs.totals.totals_of.Goals as goal

pub returns-in_err-all-clause-none : goal.returns-in_err-all-clause-none
returns-in_err-all-clause-none c = λ _. too_large_with c.args.rings.now c.loop-ring.ring-index c.loop-ring.all c.ring-item.result c.loop-ring-test.true c.loop-ring.invariant c.ring-item.is (c.in_err-all.ensures.none refl)
