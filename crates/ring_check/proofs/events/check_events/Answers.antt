use Rattle.std.proofs.Common.{◌∙◌, sym, refl, inl, inr, arith}
use Rattle.ring_check.proofs.EventLines.{event_bad, event_good}
use Rattle.ring_check.proofs.events.check_events.Goals as goal
use Rattle.ring_check.proofs.events.check_events.Goals.{then-left_of-eq0, else-left_of-eq0}

pub returns-in-Some-clause-finds : goal.returns-in-Some-clause-finds
returns-in-Some-clause-finds c = λ version rings.
    rw (event_bad c.args.line c.args.k c.args.start.now c.args.events.now c.loop-i.first c.loop-i.i _ c.loop-i-test.true c.loop-i.replay c.loop-i.invariant c.in-Some.kind (sym c.in-Some.ensures) version rings) (refl, refl)

pub loop-i-preserved : goal.loop-i-preserved
loop-i-preserved c =
    let left = c.left_of.ensures in
    event_good c.args.line c.args.k c.args.start.now c.args.events.now c.loop-i.first c.loop-i.i _ c.loop-i-test.true c.loop-i.replay c.loop-i.invariant c.apply.new.self c.if-left_of-eq0.first
    (sym c.in_default-fault_of.ensures)
    (elim c.if-left_of-eq0.branch [ then-left_of-eq0 w ↦ inl (sym left ∙ w.if-left_of-eq0.true, w.first-is) | else-left_of-eq0 w ↦ inr (omega (arith, left, w.if-left_of-eq0.false), w.first-is) ])
    (record { state = c.apply.ensures.state; calm = c.apply.ensures.calm })
