use Rattle.std.proofs.Common.{arith}
use Rattle.segment_files.proofs.RemarkSteps.{line_ends, line_all}
use Rattle.segment_files.proofs.remarks.split_line.Goals as goal

pub returns-then-byte-eq10-clause-lines : goal.returns-then-byte-eq10-clause-lines
returns-then-byte-eq10-clause-lines c =
    rw (c.split_at.ensures.front, c.split_at.ensures.back)
    (line_ends c.args.bytes.now c.loop-i.i 0 c.loop-i-test.true c.loop-i.invariant c.if-byte-eq10.true)

pub returns-clause-lines : goal.returns-clause-lines
returns-clause-lines c =
    rw (c.split_at-2.ensures.front, c.split_at-2.ensures.back)
    (line_all c.args.bytes.now c.loop-i.i _ c.requires (omega (arith, c.loop-i-test.false)) (omega arith) c.loop-i.invariant)
