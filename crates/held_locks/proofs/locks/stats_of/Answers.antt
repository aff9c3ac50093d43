use Rattle.std.proofs.Common.{refl, []}
use Rattle.held_locks.specs.Locks.{Stats, turn}
use Rattle.held_locks.specs.Kept.{lock_of}
use Rattle.held_locks.specs.Parts.{view_of}
use Rattle.held_locks.proofs.Lifting.{lifted_done, part_at, parts_same}
use Rattle.held_locks.proofs.locks.stats_of.Goals as goal

pub stats-requires : goal.stats-requires
stats-requires c = c.requires.rings c.args.lock c.index-locks-lock.result (part_at c.args.locks.now c.args.lock c.index-locks-lock.result c.if-lock-locks.false c.index-locks-lock.is)

pub returns : goal.returns
returns c = λ client es k.
    let at = part_at c.args.locks.now c.args.lock c.index-locks-lock.result c.if-lock-locks.false c.index-locks-lock.is in
    lifted_done c.args.locks.now c.args.locks.now es es client c.args.lock Stats c.index-locks-lock.result c.index-locks-lock.result (turn [] (lock_of (view_of c.index-locks-lock.result)) client Stats) c.stats.result k at
    (parts_same c.args.locks.now c.args.lock c.index-locks-lock.result at) refl (c.stats.ensures c.args.lock client es)
