use Rattle.std.proofs.Common.{suc, ◌*◌, ◌<◌, inr, arith}
use Rattle.lock_names.proofs.Sized.{doubled}
use Rattle.lock_names.proofs.sizes.wanted_pool.Goals as goal

pub loop-size-preserved : goal.loop-size-preserved
loop-size-preserved c =
    let inv = c.loop-size.invariant in
    let less : 3 * c.loop-size.size < 4 * c.args.used = c.loop-size-test.true in
    let used = c.ranges.used.fits in
    let some : 0 < c.loop-size.size = inv.positive in
    let more : 3 * (c.loop-size.size * 2) < 8 * c.args.used = omega arith in
    record {
      power = (suc inv.power.0, doubled inv.power.0 c.loop-size.size inv.power.1);
      least = inr more;
      positive = omega arith;
      few = omega arith;
    }
