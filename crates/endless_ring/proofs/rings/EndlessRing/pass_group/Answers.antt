use Rattle.endless_ring.proofs.Segments.{known_group}
use Rattle.endless_ring.proofs.rings.EndlessRing.pass_group.Goals as goal

pub invariant_of-self-2 : goal.invariant_of-self-2
invariant_of-self-2 c =
    known_group c.self.inside.base c.self.inside.quiet c.self.inside.ring c.pass_group.new.self c.args.seat c.args.order c.args.machines.now c.in-Ok.receipt c.self.invariant c.in-Ok.ensures.ring c.in-Ok.ensures.ok
