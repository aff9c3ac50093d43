use Rattle.std.proofs.Common.{List, subst}
use Rattle.held_locks.specs.Kept.{LockView, AreKept}
use Rattle.held_locks.proofs.locks.Locks.are_kept.Goals as goal

pub returns : goal.returns
returns c = (c.self.inside.waits, subst (λ (vs : List LockView). AreKept vs c.self.inside.waits) c.self.view_is c.self.invariant.kept)
