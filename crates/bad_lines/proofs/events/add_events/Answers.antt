use Rattle.std.proofs.Common.{◌∙◌, sym, inl, inr, arith}
use Rattle.bad_lines.proofs.EventLines.{told_on, told_stop, lost_stop, told_all, left_here}
use Rattle.bad_lines.proofs.events.add_events.Goals as goal
use Rattle.bad_lines.proofs.events.add_events.Goals.{then-left_after-eq0, else-left_after-eq0}

pub loop-i-preserved : goal.loop-i-preserved
loop-i-preserved c =
    let left = c.left_after-in-loop-i.ensures ∙ left_here c.args.events.now c.loop-i.i _ c.loop-i-test.true in
    told_on c.args.line c.args.start.now c.args.events.now c.args.out.now.items c.loop-i.first c.loop-i.i _ c.loop-i-test.true c.loop-i.replay c.loop-i.out.items c.loop-i.invariant
    c.left_after.result c.fault_of-bad.result c.tell.new.out.items c.step.new.self c.if-left_after-eq0.first c.left_after.ensures c.fault_of-bad.ensures c.in_ok-tell.ensures
    (sym c.is_in_range.ensures ∙ c.if-not-is_in_range.false)
    (record { state = c.step.ensures.state; calm = c.step.ensures.calm })
    (elim c.if-left_after-eq0.branch [
      | then-left_after-eq0 w ↦ inl (sym left ∙ w.if-left_after-eq0.true, w.first-is)
      | else-left_after-eq0 w ↦ inr (omega (arith, left, w.if-left_after-eq0.false), w.first-is)
    ])

pub returns-then-not-is_in_range-clause-told : goal.returns-then-not-is_in_range-clause-told
returns-then-not-is_in_range-clause-told c =
    told_stop c.args.line c.args.start.now c.args.events.now c.args.out.now.items c.loop-i.first c.loop-i.i _ c.loop-i-test.true c.loop-i.replay c.loop-i.out.items c.loop-i.invariant
    c.left_after.result c.fault_of-bad.result c.tell.new.out.items c.left_after.ensures c.fault_of-bad.ensures c.in_ok-tell.ensures
    (sym c.is_in_range.ensures ∙ c.if-not-is_in_range.true)

pub returns-then-not-is_in_range-clause-lost : goal.returns-then-not-is_in_range-clause-lost
returns-then-not-is_in_range-clause-lost c =
    lost_stop c.args.line c.args.start.now c.args.events.now c.args.out.now.items c.loop-i.first c.loop-i.i _ c.loop-i-test.true c.loop-i.replay c.loop-i.out.items c.loop-i.invariant
    (sym c.is_in_range.ensures ∙ c.if-not-is_in_range.true)

pub returns-clause-lost : goal.returns-clause-lost
returns-clause-lost c =
    (told_all c.args.line c.args.start.now c.args.events.now c.args.out.now.items c.loop-i.first c.loop-i.i c.loop-i.replay c.loop-i.out.items c.loop-i-test.false c.loop-i.invariant).2
