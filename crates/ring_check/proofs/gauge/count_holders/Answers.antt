use Rattle.std.proofs.Common.{get_or, arith}
use Rattle.ring_check.proofs.Gauging.{counted_few, counted_more}
use Rattle.ring_check.proofs.gauge.count_holders.Goals as goal

pub raise-requires : goal.raise-requires
raise-requires c =
    let few = counted_few c.args.k c.args.values.now c.loop-i.i (get_or c.args.values.now c.loop-i.i 0) c.loop-i.counted.items c.loop-i.invariant in
    omega arith

pub loop-i-preserved : goal.loop-i-preserved
loop-i-preserved c = counted_more c.args.k c.args.values.now c.loop-i.i c.loop-i.counted.items c.raise.new.holders.items c.loop-i.auto.i c.loop-i.invariant c.raise.ensures.items
