use Rattle.std.proofs.Common.{ℕ, List, subst}
use Rattle.held_locks.specs.Kept.{LockView, AreKept}
use Rattle.lock_service.proofs.service.are_kept.Goals as goal

pub returns : goal.returns
returns c = subst (λ (vs : List LockView). (entries : List (ℕ × ℕ)) × AreKept vs entries) c.locks.ensures c.are_kept.ensures
