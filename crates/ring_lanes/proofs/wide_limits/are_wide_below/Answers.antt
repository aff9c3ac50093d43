use Rattle.std.proofs.Common.{refl, arith, w16}
use Rattle.ring_lanes.proofs.Greatest.{lanes_decide}
use Rattle.ring_lanes.proofs.wide_limits.are_wide_below.Goals as goal

pub returns-then-s-ge32 : goal.returns-then-s-ge32
returns-then-s-ge32 c =
    let lanes = c.greatest_wide_lanes-lanes in
    lanes_decide w16 c.args.limit 32 lanes.result c.args.s.now (omega arith) lanes.ensures.lanes lanes.ensures.limits _ refl
