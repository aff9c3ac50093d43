use Rattle.std.proofs.Common.{sym, arith}
use Rattle.ring_model.proofs.PlainLoops.{absent_past, present_at}
use Rattle.ring_model.proofs.plain.is_absent.Goals as goal

pub returns-then-values-machine : goal.returns-then-values-machine
returns-then-values-machine c =
    sym (present_at c.args.values.now c.args.value c.loop-machine.machine c.loop-machine.auto.machine c.loop-machine-test.true c.if-values-machine.true)

pub returns : goal.returns
returns c = sym (absent_past c.args.values.now c.args.value (λ k o l. c.loop-machine.invariant k o (omega arith)))
