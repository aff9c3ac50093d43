use Rattle.std.proofs.Common.{arith}
use Rattle.ring_service.proofs.Steps.{gaps_end, gaps_space, gaps_other, gaps_none}
use Rattle.ring_service.proofs.commands.gaps.Goals as goal
use Rattle.ring_service.proofs.commands.gaps.Goals.{then-byte-eq32, else-byte-eq32}

pub returns-then-byte-eq10 : goal.returns-then-byte-eq10
returns-then-byte-eq10 c =
    let e = gaps_end c.args.bytes.now c.loop-byte.byte-index c.loop-byte-test.true c.if-byte-eq10.true in
    let p = c.loop-byte.invariant.passed in
    let few = c.loop-byte.invariant.few in
    let more = c.loop-byte-test.true in (omega (arith, e, p), omega (arith, few, more))

pub loop-byte-preserved : goal.loop-byte-preserved
loop-byte-preserved c =
    let p = c.loop-byte.invariant.passed in
    let few = c.loop-byte.invariant.few in
    elim c.if-byte-eq32.branch [
      | then-byte-eq32 w ↦ let e = gaps_space c.args.bytes.now c.loop-byte.byte-index c.loop-byte-test.true w.if-byte-eq32.true in
          record { passed = omega (arith, e, p); few = omega (arith, few) }
      | else-byte-eq32 w ↦ let e = gaps_other c.args.bytes.now c.loop-byte.byte-index c.loop-byte-test.true c.if-byte-eq10.false w.if-byte-eq32.false in
          record { passed = omega (arith, e, p); few = omega (arith, few) }
    ]

pub returns : goal.returns
returns c =
    let e = gaps_none c.args.bytes.now c.loop-byte.byte-index c.loop-byte-test.false in
    let p = c.loop-byte.invariant.passed in
    let few = c.loop-byte.invariant.few in (omega (arith, e, p), omega (arith, few, c.loop-byte.far-byte-index))
