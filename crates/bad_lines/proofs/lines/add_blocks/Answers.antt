use Rattle.std.proofs.Common.{◌≡◌, length, arith}
use Rattle.bad_lines.proofs.BlockLines.{ring_room, blocks_next, blocks_all}
use Rattle.bad_lines.proofs.lines.add_blocks.Goals as goal

pub add_block-requires : goal.add_block-requires
add_block-requires c =
    omega (arith, ring_room c.args.version c.args.rings.now c.args.out.now.items c.loop-i.i c.loop-i.line c.index-rings-i.result c.loop-i-test.true c.index-rings-i.is c.loop-i.out.items c.loop-i.invariant, c.requires)

pub overflow_add-line-in-loop-i : goal.overflow_add-line-in-loop-i
overflow_add-line-in-loop-i c =
    omega (
      arith,
      ring_room c.args.version c.args.rings.now c.args.out.now.items c.loop-i.i c.loop-i.line c.index-rings-i.result c.loop-i-test.true c.index-rings-i.is c.loop-i.out.items c.loop-i.invariant,
      c.requires,
      c.len.ensures,
      c.len-in-loop-i.ensures,
      c.index-rings-i.result.events.ok.0,
      c.index-rings-i.result.surveys.ok.0,
    )

pub overflow_add-line-in-loop-i-2 : goal.overflow_add-line-in-loop-i-2
overflow_add-line-in-loop-i-2 c =
    omega (
      arith,
      ring_room c.args.version c.args.rings.now c.args.out.now.items c.loop-i.i c.loop-i.line c.index-rings-i.result c.loop-i-test.true c.index-rings-i.is c.loop-i.out.items c.loop-i.invariant,
      c.requires,
      c.len.ensures,
      c.len-in-loop-i.ensures,
      c.index-rings-i.result.events.ok.0,
      c.index-rings-i.result.surveys.ok.0,
    )

pub loop-i-preserved : goal.loop-i-preserved
loop-i-preserved c =
    let e : c.len.result ≡ length c.index-rings-i.result.events.items = omega (arith, c.len.ensures, c.index-rings-i.result.events.ok.0) in
    let s : c.len-in-loop-i.result ≡ length c.index-rings-i.result.surveys.items = omega (arith, c.len-in-loop-i.ensures, c.index-rings-i.result.surveys.ok.0) in
    rw (e, s) (blocks_next c.args.version c.args.rings.now c.args.out.now.items c.loop-i.i c.loop-i.line c.index-rings-i.result c.loop-i-test.true c.index-rings-i.is c.loop-i.out.items c.loop-i.invariant c.add_block.new.out.items c.in_ok-add_block.ensures)

pub returns-clause-told : goal.returns-clause-told
returns-clause-told c =
    (blocks_all c.args.version c.args.rings.now c.args.out.now.items c.loop-i.i c.loop-i.line c.loop-i.out.items c.loop-i-test.false c.loop-i.invariant).0

pub returns-clause-lines : goal.returns-clause-lines
returns-clause-lines c =
    (blocks_all c.args.version c.args.rings.now c.args.out.now.items c.loop-i.i c.loop-i.line c.loop-i.out.items c.loop-i-test.false c.loop-i.invariant).1
