use Rattle.ring_turns.proofs.Waits.{notes}
use Rattle.ring_turns.proofs.desks.Desk.note.Goals as goal

pub invariant_of-self : goal.invariant_of-self
invariant_of-self g c = record { kept = notes c.args.self.now.waits c.args.self.now.last c.args.seen c.args.event c.args.machine c.args.value c.args.self.now.kept c.requires.one c.requires.call }
