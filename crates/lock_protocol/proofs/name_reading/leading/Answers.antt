use Rattle.std.proofs.Common.{sym, arith}
use Rattle.lock_protocol.proofs.ReadNames.{leading_other, leading_more, leading_end}
use Rattle.lock_protocol.proofs.name_reading.leading.Goals as goal

pub returns-then-not-is_name_byte : goal.returns-then-not-is_name_byte
returns-then-not-is_name_byte c =
    let none = leading_other c.args.bytes.now c.loop-i.i c.loop-i-test.true (sym c.if-not-is_name_byte.ensures) in
    let inv = c.loop-i.invariant in
    omega (arith, none, inv)

pub loop-i-preserved : goal.loop-i-preserved
loop-i-preserved c =
    let more = leading_more c.args.bytes.now c.loop-i.i c.loop-i-test.true (sym c.if-not-is_name_byte.ensures) in
    let inv = c.loop-i.invariant in
    omega (arith, more, inv)

pub returns : goal.returns
returns c = leading_end c.args.bytes.now c.loop-i.i c.loop-i-test.false c.loop-i.invariant
