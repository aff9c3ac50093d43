use Rattle.std.proofs.Common.{◌<◌, length, arith}
use Rattle.lock_names.proofs.Found.{there_is}
use Rattle.folder_of_locks.proofs.HeldNames.{bounds_more}
use Rattle.folder_of_locks.proofs.name_rings.names_held.Goals as goal

pub loop-ring-preserved : goal.loop-ring-preserved
loop-ring-preserved c =
    let below : c.loop-ring.ring < length c.args.locks.now = let t = c.loop-ring-test.true in let n = c.count-ring-end.ensures in omega arith in
    let w = there_is c.args.locks.now c.loop-ring.ring below in
    let low = c.loop-ring.invariant.low in
    record {
      low = omega (arith, low);
      names = bounds_more c.args.fixed c.loop-ring.ring c.args.recorded.now.rings c.args.locks.now w.0 c.loop-ring.names.items c.push.new.self.items c.in-Ok.name low w.1 c.loop-ring.invariant.names c.in-Ok-push.ensures.items (c.in-Ok.ensures w.0 w.1);
    }
