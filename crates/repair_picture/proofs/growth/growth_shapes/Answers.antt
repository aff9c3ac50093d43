use Rattle.std.proofs.Common.{◌<◌, arith}
use Rattle.repair_picture.specs.Growth.{styles}
use Rattle.repair_picture.proofs.Lists.{same_entry, curve_more}
use Rattle.repair_picture.proofs.growth.growth_shapes.Goals as goal

pub loop-place-preserved : goal.loop-place-preserved
loop-place-preserved c =
    let end = c.loop-place.auto.place-end in
    let lt : c.loop-place.place < 7 = omega (arith, c.loop-place-test.true, end) in
    curve_more c.args.rows.now c.loop-place.place _ c.loop-place.shapes.items _ lt c.loop-place.invariant (same_entry styles c.loop-place.place _ _ lt)
    c.in_ok-add_curve.ensures
