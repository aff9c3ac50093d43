use Rattle.std.proofs.Common.{sym, ◌∙◌, arith}
use Rattle.ring_model.specs.Ring.{ring_with}
use Rattle.ring_model.proofs.PlainLoops.{lead_at, lead_none}
use Rattle.ring_model.proofs.plain.lead.Goals as goal

pub returns-then-is_absent-clause-value : goal.returns-then-is_absent-clause-value
returns-then-is_absent-clause-value c =
    lead_at (ring_with c.args.k c.args.values.now) c.loop-steps.steps (sym c.first_value_is_prefix.ensures ∙ c.if-first_value_is_prefix.false) c.loop-steps.auto.steps
    c.loop-steps-test.true (sym c.is_absent.ensures ∙ c.if-is_absent.true) c.loop-steps.invariant

pub returns-clause-value : goal.returns-clause-value
returns-clause-value c =
    let end = c.loop-steps-test.false in
    lead_none (ring_with c.args.k c.args.values.now) (sym c.first_value_is_prefix.ensures ∙ c.if-first_value_is_prefix.false) (λ i o l. c.loop-steps.invariant i o (omega arith))
