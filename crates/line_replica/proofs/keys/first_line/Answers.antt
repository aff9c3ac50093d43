use Rattle.std.proofs.Common.{sym, ◌∙◌, arith}
use Rattle.line_replica.proofs.FirstLines.{line_more, line_ends, line_all}
use Rattle.line_replica.proofs.keys.first_line.Goals as goal

pub returns-then-byte-eq10 : goal.returns-then-byte-eq10
returns-then-byte-eq10 c = sym (line_ends c.args.text.now c.loop-i.i c.loop-i-test.true c.if-byte-eq10.true) ∙ c.loop-i.invariant

pub loop-i-preserved : goal.loop-i-preserved
loop-i-preserved c = sym (line_more c.args.text.now c.loop-i.i c.loop-i-test.true c.if-byte-eq10.false) ∙ c.loop-i.invariant

pub returns : goal.returns
returns c = sym (line_all c.args.text.now c.loop-i.i (omega arith)) ∙ c.loop-i.invariant
