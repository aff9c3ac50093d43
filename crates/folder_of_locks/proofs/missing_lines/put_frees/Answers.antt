use Rattle.std.proofs.Common.{◌<◌, length, arith}
use Rattle.lock_names.proofs.Found.{there_is}
use Rattle.folder_of_locks.proofs.HeldNames.{frees_added}
use Rattle.folder_of_locks.proofs.missing_lines.put_frees.Goals as goal

pub loop-ring-preserved : goal.loop-ring-preserved
loop-ring-preserved c =
    let below : c.loop-ring.ring < length c.args.locks.now = let t = c.loop-ring-test.true in let n = c.count-ring-end.ensures in omega arith in
    let w = there_is c.args.locks.now c.loop-ring.ring below in
    let low = c.loop-ring.invariant.low in
    record {
      low = omega (arith, low);
      text = frees_added c.args.fixed c.loop-ring.ring c.args.recorded.now.rings c.args.locks.now w.0 c.args.text.now.items c.loop-ring.text.items c.put_free.new.text.items low w.1 c.loop-ring.invariant.text (c.in-Ok.ensures w.0 w.1);
    }
