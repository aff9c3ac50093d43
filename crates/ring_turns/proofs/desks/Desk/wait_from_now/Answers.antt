use Rattle.ring_turns.proofs.Waits.{asks}
use Rattle.ring_turns.proofs.desks.Desk.wait_from_now.Goals as goal

pub invariant_of-self : goal.invariant_of-self
invariant_of-self g c = record { kept = rw c.len.ensures.length (asks c.args.self.now.waits c.args.self.now.last c.args.client c.args.self.now.kept) }
