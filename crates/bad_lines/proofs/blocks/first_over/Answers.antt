use Rattle.std.proofs.Common.{◌≤◌, length, refl, arith}
use Rattle.bad_lines.proofs.Starts.{over_here, over_next, over_none}
use Rattle.bad_lines.proofs.blocks.first_over.Goals as goal

pub loop-value-init : goal.loop-value-init
loop-value-init c = record { first = refl; all = refl }

pub returns-then-value-limit-clause-some : goal.returns-then-value-limit-clause-some
returns-then-value-limit-clause-some c = over_here c.args.limit c.args.values.now c.loop-value.value-index c.loop-value-test.true c.loop-value.invariant c.if-value-limit.true

pub loop-value-preserved : goal.loop-value-preserved
loop-value-preserved c = over_next c.args.limit c.args.values.now c.loop-value.value-index c.loop-value-test.true c.loop-value.invariant c.if-value-limit.false

pub returns-clause-none : goal.returns-clause-none
returns-clause-none c =
    let past = c.loop-value-test.false in
    let end = c.loop-value.auto.value-index-end in
    let all : length c.args.values.now ≤ c.loop-value.value-index = omega (arith, past, end) in
    over_none c.args.limit c.args.values.now c.loop-value.value-index all c.loop-value.invariant
