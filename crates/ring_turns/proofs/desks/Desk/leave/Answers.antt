use Rattle.ring_turns.proofs.Waits.{leaves, has_left}
use Rattle.ring_turns.proofs.desks.Desk.leave.Goals as goal

pub invariant_of-self : goal.invariant_of-self
invariant_of-self g c = record { kept = λ i p e. c.args.self.now.kept i p (leaves c.args.self.now.waits c.args.client i p e) }

pub returns-clause-left : goal.returns-clause-left
returns-clause-left g c = has_left c.args.self.now.waits c.args.client
