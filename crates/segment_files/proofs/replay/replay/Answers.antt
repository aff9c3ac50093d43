use Rattle.std.proofs.Common.{arith}
use Rattle.segment_files.proofs.Standing.{machine_within, grants_few, stands_on}
use Rattle.segment_files.proofs.replay.replay.Goals as goal

pub step-requires-clause-within : goal.step-requires-clause-within
step-requires-clause-within c =
    let l = c.loop-event in
    rw c.op_of.ensures (machine_within c.args.k c.args.start.now c.args.events.now l.event-index _ l.values.items l.amount l.grants l.calm c.loop-event-test.true c.requires.legal l.invariant)

pub step-requires-clause-room : goal.step-requires-clause-room
step-requires-clause-room c =
    let l = c.loop-event in
    let few = grants_few c.args.k c.args.start.now c.args.events.now l.event-index l.values.items l.amount l.grants l.calm c.loop-event-test.true l.invariant in
    omega (arith, few)

pub loop-event-preserved : goal.loop-event-preserved
loop-event-preserved c =
    let l = c.loop-event in
    rw c.calm_with-calm.ensures (stands_on c.args.k c.args.start.now c.args.events.now l.event-index _ l.values.items l.amount l.grants l.calm c.loop-event-test.true c.requires.legal l.invariant
    c.step.new.values.items c.step.new.amount c.step.new.grants (rw c.op_of.ensures at c.step.ensures.state))
