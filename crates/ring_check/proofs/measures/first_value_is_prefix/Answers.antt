use Rattle.std.proofs.Common.{arith}
use Rattle.ring_check.proofs.Measuring.{prefix_past, prefix_not}
use Rattle.ring_check.proofs.measures.first_value_is_prefix.Goals as goal

pub returns-then-values-i-2 : goal.returns-then-values-i-2
returns-then-values-i-2 c = prefix_not c.args.values.now c.loop-i.i c.loop-i.auto.i c.loop-i-test.true c.if-values-i.true c.if-values-i-2.true

pub returns : goal.returns
returns c = prefix_past c.args.values.now (λ k l e. c.loop-i.invariant k (omega arith) e)
