use Rattle.std.proofs.Common.{rules}
use Rattle.held_locks.specs.Parts.{view_of}
use Rattle.held_locks.proofs.NextSegments.{next_of}
use Rattle.held_locks.proofs.cuts.next_ring.Goals as goal

pub returns-clause-ok : goal.returns-clause-ok
returns-clause-ok c = next_of (view_of c.args.lock.now) c.in-Ok.ring c.reserve.new.ring c.carry.new.ring c.requires.kept c.in-Ok.ensures.kept c.in-Ok.ensures.ok c.in-Ok-reserve.ensures.same c.carry.ensures.made c.carry.ensures.kept (search rules)
