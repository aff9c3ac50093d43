use Rattle.std.proofs.Common.{sym, arith}
use Rattle.ring_model.proofs.Lead.{front_from}
use Rattle.ring_model.proofs.PlainLoops.{no_prefix_at}
use Rattle.ring_model.proofs.plain.first_value_is_prefix.Goals as goal

pub returns-then-values-machine-2 : goal.returns-then-values-machine-2
returns-then-values-machine-2 c =
    sym (no_prefix_at c.args.values.now c.loop-machine.machine c.loop-machine.auto.machine c.loop-machine-test.true c.if-values-machine.true c.if-values-machine-2.true)

pub returns : goal.returns
returns c = sym (front_from c.args.values.now (λ k l e. c.loop-machine.invariant k (omega arith) e))
