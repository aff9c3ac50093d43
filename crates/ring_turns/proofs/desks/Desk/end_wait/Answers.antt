use Rattle.ring_turns.proofs.desks.Desk.end_wait.Goals as goal

pub returns-clause-waited : goal.returns-clause-waited
returns-clause-waited g c = (c.args.self.now.kept c.args.client c.args.asked_at c.surely_waits.ensures).0
