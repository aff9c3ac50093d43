use Rattle.ring_model.specs.declared.events.Op.TheVariants as op
use Rattle.endless_ring.proofs.Segments.{receipt_small, known_pass}
use Rattle.endless_ring.proofs.rings.EndlessRing.pass.Goals as goal

pub shift_receipt-requires-clause-within : goal.shift_receipt-requires-clause-within
shift_receipt-requires-clause-within c =
    (receipt_small c.self.inside.ring c.pass.new.self c.args.seat (op.Pass c.args.machine c.args.order) c.in-Ok.receipt c.self.invariant.is.ring c.in-Ok.ensures.ring c.in-Ok.ensures.ok).within

pub invariant_of-self-2 : goal.invariant_of-self-2
invariant_of-self-2 c =
    known_pass c.self.inside.base c.self.inside.quiet c.self.inside.ring c.pass.new.self c.args.seat c.args.machine c.args.order c.in-Ok.receipt c.self.invariant c.in-Ok.ensures.ring c.in-Ok.ensures.ok
