use Rattle.ring_model.specs.declared.events.Op.TheVariants as op
use Rattle.endless_ring.proofs.Segments.{receipt_small, known_pass}
use Rattle.endless_ring.proofs.rings.EndlessRing.grant.Goals as goal

pub shift_receipt-requires-clause-within : goal.shift_receipt-requires-clause-within
shift_receipt-requires-clause-within c =
    (receipt_small c.self.inside.ring c.grant-receipt.new.self c.args.seat (op.Pass c.args.machine c.args.order) c.grant-receipt.result c.self.invariant.is.ring c.grant-receipt.ensures.ring c.grant-receipt.ensures.recorded).within

pub invariant_of-self : goal.invariant_of-self
invariant_of-self c =
    known_pass c.self.inside.base c.self.inside.quiet c.self.inside.ring c.grant-receipt.new.self c.args.seat c.args.machine c.args.order c.grant-receipt.result c.self.invariant c.grant-receipt.ensures.ring c.grant-receipt.ensures.recorded
