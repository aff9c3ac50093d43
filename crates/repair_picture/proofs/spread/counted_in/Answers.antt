use Rattle.std.proofs.Common.{arith}
use Rattle.repair_picture.proofs.Counts.{part_more}
use Rattle.repair_picture.proofs.spread.counted_in.Goals as goal

pub loop-place-preserved : goal.loop-place-preserved
loop-place-preserved c =
    let more = part_more c.args.counts.now c.args.from c.loop-place.place in
    let sum' = c.loop-place.invariant.is in
    let most' = c.loop-place.invariant.most in
    let here = c.count_of.ensures.is in
    let few = c.count_of.ensures.few in
    record { is = omega arith; most = omega arith }
