use Rattle.held_locks.proofs.NextSegments.{next_kept}
use Rattle.held_locks.proofs.marks.next.Goals as goal

pub returns-in-Ok-clause-kept : goal.returns-in-Ok-clause-kept
returns-in-Ok-clause-kept c = next_kept c.args.ring.now c.in-Ok.next c.requires c.in-Ok.ensures.is c.in-Ok.ensures.ok
