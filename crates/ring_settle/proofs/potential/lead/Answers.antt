use Rattle.std.proofs.Common.{◌≡◌, ◌+◌, ◌%◌, true, get_or, ap, sym, ◌∙◌, arith}
use Rattle.ring_model.specs.Ring.{is_absent}
use Rattle.ring_model.proofs.Bound.{lead_le}
use Rattle.ring_state.specs.Sizes.{Size}
use Rattle.ring_settle.proofs.Potentials.{lead_at, lead_found, absent_where_not_held}
use Rattle.ring_settle.proofs.potential.lead.Goals as goal

pub returns-then-not-holds_past_first-clause-is : goal.returns-then-not-holds_past_first-clause-is
returns-then-not-holds_past_first-clause-is c =
    let s = c.args.state.now.values in
    let k : c.k-k.result ≡ c.args.state.now.k = c.k-k.ensures.is ∙ ap (λ (s : Size). s.k) c.params.ensures.is in
    let v : (c.get-own.result + c.loop-steps.steps) % c.k-k.result ≡ (get_or s 0 0 + c.loop-steps.steps) % c.args.state.now.k = cc (c.get-own.ensures.is, k) in
    let free : is_absent s ((get_or s 0 0 + c.loop-steps.steps) % c.args.state.now.k) ≡ true =
    sym (ap (is_absent s) v) ∙ absent_where_not_held (is_absent s ((c.get-own.result + c.loop-steps.steps) % c.k-k.result)) c.holds_past_first.result c.holds_past_first.ensures.absent c.if-not-holds_past_first.true in
    lead_at c.args.state.now c.loop-steps.steps (sym c.first_value_is_prefix.ensures.test ∙ c.if-first_value_is_prefix.false) c.loop-steps.auto.steps free (omega arith) c.loop-steps.invariant

pub returns-then-not-holds_past_first-clause-below : goal.returns-then-not-holds_past_first-clause-below
returns-then-not-holds_past_first-clause-below c =
    let is = returns-then-not-holds_past_first-clause-is c in
    let small = lead_le c.args.state.now c.params.ensures.ring.ring in
    omega arith

pub unreachable-requires : goal.unreachable-requires
unreachable-requires c =
    let k : c.k-k.result ≡ c.args.state.now.k = c.k-k.ensures.is ∙ ap (λ (s : Size). s.k) c.params.ensures.is in
    lead_found c.args.state.now c.params.ensures.ring.ring (sym c.first_value_is_prefix.ensures.test ∙ c.if-first_value_is_prefix.false)
    (λ i o l. c.loop-steps.invariant i o (omega arith))
