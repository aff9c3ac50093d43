use Rattle.std.proofs.Common.{◌∙◌, arith}
use Rattle.c_calls.proofs.Counted.{put_more}
use Rattle.c_calls.proofs.desks.put_all.Goals as goal

pub loop-one-preserved : goal.loop-one-preserved
loop-one-preserved c =
    let i = c.loop-one.invariant in
    let room = i.room in
    let len = c.put.ensures.len in
    let cap = c.put.ensures.capacity in record {
      put = put_more c.args.left.now c.loop-one.one-index _ c.args.grants.now.items c.loop-one.grants.items c.put.new.grants.items c.loop-one-test.true i.put c.put.ensures.put;
      room = omega arith;
      capacity = cap ∙ i.capacity;
    }
