use Rattle.std.proofs.Common.{◌+◌, arith}
use Rattle.ring_lanes.proofs.Joined.{no_hit_then, none_in_two}
use Rattle.ring_lanes.proofs.kernels.first_late_hit.Goals as goal

pub loop-i-preserved : goal.loop-i-preserved
loop-i-preserved g c =
    let p = g.P.Probe.hit c.args.p.now in
    let i = c.loop-i.i in
    record {
      low = omega arith;
      high = omega arith;
      none = no_hit_then p c.args.from i i (i + 64) (omega arith) c.loop-i.invariant.none
          (none_in_two p i c.hits-left.result c.hits-right.result c.hits-left.ensures c.hits-right.ensures c.if-left-right-ne0.false);
    }
