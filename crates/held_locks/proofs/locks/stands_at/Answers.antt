use Rattle.std.proofs.Common.{sym}
use Rattle.held_locks.specs.Kept.{lock_of, locks_of}
use Rattle.held_locks.specs.Parts.{view_of, views_of}
use Rattle.held_locks.proofs.Finding.{part_there, stands_is, stands_not}
use Rattle.held_locks.proofs.locks.stands_at.Goals as goal

pub returns-in-Some : goal.returns-in-Some
returns-in-Some c = λ p at.
    stands_is (locks_of (views_of c.args.locks.now)) c.args.waits.now c.args.client c.args.lock c.in-Some.other (lock_of (view_of p)) c.requires.waits (part_there c.args.locks.now c.args.lock p at) (sym c.in-Some.ensures)

pub returns-in-None : goal.returns-in-None
returns-in-None c = λ p at.
    stands_not (locks_of (views_of c.args.locks.now)) c.args.waits.now c.args.client c.args.lock (lock_of (view_of p)) c.requires.waits (part_there c.args.locks.now c.args.lock p at) (sym c.in-None.ensures)
