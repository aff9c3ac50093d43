use Rattle.std.proofs.Common.{length, sym, ◌∙◌, arith}
use Rattle.ring_model.specs.Ring.{is_privileged}
use Rattle.ring_model.proofs.PlainLoops.{least_at, least_none}
use Rattle.ring_model.proofs.plain.first_privileged.Goals as goal

pub returns-then-is_privileged : goal.returns-then-is_privileged
returns-then-is_privileged c =
    let l = c.loop-machine-test.true in
    least_at (is_privileged c.args.values.now) 0 (length c.args.values.now) c.loop-machine.machine (omega arith) (omega arith)
    (sym c.is_privileged.ensures ∙ c.if-is_privileged.true) (λ k _ less. c.loop-machine.invariant k less)

pub returns : goal.returns
returns c =
    let end = c.loop-machine-test.false in
    let none = least_none (is_privileged c.args.values.now) 0 (length c.args.values.now) (λ k _ less. c.loop-machine.invariant k (omega arith)) in
    omega arith
