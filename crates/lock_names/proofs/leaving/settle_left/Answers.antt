use Rattle.std.proofs.Common.{◌+◌, refl, ◌∙◌, arith}
use Rattle.std.proofs.lemmas.List.{length-set}
use Rattle.lock_names.proofs.LeftRings.{next_read, told_more, told_rest}
use Rattle.lock_names.proofs.leaving.settle_left.Goals as goal

pub told_left-requires : goal.told_left-requires
told_left-requires c =
    let inv = c.loop-i.invariant in
    let many = inv.many in
    let t = c.loop-i-test.true in
    let n = c.len-i-end.ensures in
    let len = c.args.left.now.ok.0 in
    (next_read c.args.fixed c.args.table.now c.loop-i.table c.args.left.now.items c.loop-i.left.items c.loop-i.i c.index-one.result.now inv.names many (omega arith) c.index-one.ensures inv.rest c.requires.apart c.requires.tellable).tellable

pub forget_left-requires : goal.forget_left-requires
forget_left-requires c =
    let inv = c.loop-i.invariant in
    let many = inv.many in
    let t = c.loop-i-test.true in
    let n = c.len-i-end.ensures in
    let len = c.args.left.now.ok.0 in
    (next_read c.args.fixed c.args.table.now c.loop-i.table c.args.left.now.items c.loop-i.left.items c.loop-i.i c.index-one.result.now inv.names many (omega arith) c.index-one.ensures inv.rest c.requires.apart c.requires.tellable).within

pub overflow_add-grants : goal.overflow_add-grants
overflow_add-grants c =
    let inv = c.loop-i.invariant in
    let many = inv.many in
    let t = c.loop-i-test.true in
    let n = c.len-i-end.ensures in
    let fits = c.len-i-end.auto in
    let len = c.args.left.now.ok.0 in
    let r = next_read c.args.fixed c.args.table.now c.loop-i.table c.args.left.now.items c.loop-i.left.items c.loop-i.i c.index-one.result.now inv.names many (omega arith) c.index-one.ensures inv.rest c.requires.apart c.requires.tellable in
    let grants = inv.grants in
    let one = c.grant_count-grants.ensures in
    let more = r.grants in
    let few = r.few in
    omega arith

pub loop-i-preserved : goal.loop-i-preserved
loop-i-preserved c =
    let inv = c.loop-i.invariant in
    let many = inv.many in
    let t = c.loop-i-test.true in
    let n = c.len-i-end.ensures in
    let len = c.args.left.now.ok.0 in
    let r = next_read c.args.fixed c.args.table.now c.loop-i.table c.args.left.now.items c.loop-i.left.items c.loop-i.i c.index-one.result.now inv.names many (omega arith) c.index-one.ensures inv.rest c.requires.apart c.requires.tellable in
    let grants = inv.grants in
    let one = c.grant_count-grants.ensures in
    let more = r.grants in
    record {
      many = length-set c.loop-i.left.items c.loop-i.i c.told_left.result ∙ many;
      told = told_more c.args.table.now c.loop-i.left.items c.args.left.now.items c.loop-i.i c.index-one.result.now c.told_left.result many r.at (c.told_left.ensures ∙ r.told) inv.told;
      rest = told_rest c.loop-i.left.items c.args.left.now.items c.loop-i.i (c.loop-i.i + 1) c.told_left.result refl inv.rest;
      names = c.forget_left.ensures ∙ r.names;
      grants = omega arith;
      capacity = inv.capacity;
    }
