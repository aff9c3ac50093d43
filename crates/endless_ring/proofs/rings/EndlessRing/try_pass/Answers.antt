use Rattle.std.proofs.Common.{subst}
use Rattle.ring_model.specs.Resources.{till}
use Rattle.ring_model.specs.declared.events.Op.TheVariants as op
use Rattle.one_thread_ring.specs.Rings.{IsTried}
use Rattle.endless_ring.proofs.Segments.{receipt_small, known_pass}
use Rattle.endless_ring.proofs.rings.EndlessRing.try_pass.Goals as goal

pub shift_receipt-requires-clause-within : goal.shift_receipt-requires-clause-within
shift_receipt-requires-clause-within c =
    let tried = subst (λ o. IsTried till c.self.inside.ring c.try_pass.new.self c.args.seat c.args.machine c.args.order o) c.in-Ok-Some.field-0-is c.in-Ok-Some.ensures.ok in
    (receipt_small c.self.inside.ring c.try_pass.new.self c.args.seat (op.Pass c.args.machine c.args.order) c.in-Ok-Some.receipt c.self.invariant.is.ring c.in-Ok-Some.ensures.ring tried.1).within

pub invariant_of-self-2 : goal.invariant_of-self-2
invariant_of-self-2 c =
    let tried = subst (λ o. IsTried till c.self.inside.ring c.try_pass.new.self c.args.seat c.args.machine c.args.order o) c.in-Ok-Some.field-0-is c.in-Ok-Some.ensures.ok in
    known_pass c.self.inside.base c.self.inside.quiet c.self.inside.ring c.try_pass.new.self c.args.seat c.args.machine c.args.order c.in-Ok-Some.receipt c.self.invariant c.in-Ok-Some.ensures.ring tried.1
