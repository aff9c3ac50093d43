use Rattle.std.specs.List.{each_same}
use Rattle.held_locks.specs.Parts.{view_of}
use Rattle.held_locks.proofs.NextSegments.{next_lock}
use Rattle.held_locks.proofs.cuts.next_lock.Goals as goal

pub returns-clause-ok : goal.returns-clause-ok
returns-clause-ok c = next_lock (view_of c.args.lock.now) c.in-Ok.ring c.in-Ok-clone.queue.items c.requires.kept c.requires.right c.in-Ok.ensures.ok (each_same c.args.lock.now.queue.items c.in-Ok-clone.queue.items c.in-Ok-clone.ensures.cases.0)
