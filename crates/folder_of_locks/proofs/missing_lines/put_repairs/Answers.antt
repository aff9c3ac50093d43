use Rattle.std.proofs.Common.{◌<◌, length, refl, arith}
use Rattle.std.proofs.lemmas.Option.{slice_get_read}
use Rattle.lock_names.proofs.Found.{there_is}
use Rattle.folder_of_locks.proofs.HeldNames.{repairs_added}
use Rattle.folder_of_locks.proofs.missing_lines.put_repairs.Goals as goal

pub loop-place-preserved : goal.loop-place-preserved
loop-place-preserved c =
    let rings = c.args.rings.now in
    let place = c.loop-place.place in
    let below : place < length c.args.locks.now = omega (arith, c.requires, c.loop-place-test.true) in
    let w = there_is c.args.locks.now place below in
    repairs_added place rings c.args.locks.now c.index-rings-place.result w.0 c.args.text.now.items c.loop-place.text.items c.put_repair.new.text.items
    (slice_get_read rings (length rings) place c.index-rings-place.result refl c.loop-place-test.true c.index-rings-place.is) w.1 c.loop-place.invariant (c.in-Ok.ensures w.0 w.1)
