use Rattle.std.proofs.Common.{◌≡◌, ◌+◌, ◌%◌, true, false, get_or, sym, ◌∙◌, ap, arith}
use Rattle.ring_model.specs.Ring.{first_value_is_prefix, is_absent}
use Rattle.ring_model.proofs.PlainLoops.{lead_at, lead_none}
use Rattle.ring_check.specs.Gauges.{ring_of}
use Rattle.ring_check.proofs.gauge.Gauge.lead.Goals as goal

pub returns-then-is_absent-clause-value : goal.returns-then-is_absent-clause-value
returns-then-is_absent-clause-value c =
    let off : first_value_is_prefix c.args.self.now.values.items ≡ false = cc (c.first_value_is_prefix.ensures, c.deref.ensures.value, c.if-first_value_is_prefix.false) in
    let on : is_absent c.args.self.now.values.items ((get_or c.args.self.now.values.items 0 0 + c.loop-steps.steps) % c.args.self.now.k) ≡ true =
    ap (λ x. is_absent c.args.self.now.values.items ((x + c.loop-steps.steps) % c.args.self.now.k)) (sym c.value-first.ensures) ∙ sym c.is_absent.ensures ∙ c.if-is_absent.true in
    lead_at (ring_of c.args.self.now) c.loop-steps.steps off c.loop-steps.auto.steps c.loop-steps-test.true on c.loop-steps.invariant

pub returns-clause-value : goal.returns-clause-value
returns-clause-value c =
    let off : first_value_is_prefix c.args.self.now.values.items ≡ false = cc (c.first_value_is_prefix.ensures, c.deref.ensures.value, c.if-first_value_is_prefix.false) in
    let end = c.loop-steps-test.false in
    lead_none (ring_of c.args.self.now) off (λ i o l. c.loop-steps.invariant i o (omega arith))
