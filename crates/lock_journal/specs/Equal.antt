-- Equal locks, and equal segments (this project's own).
use Rattle.std.specs.Prelude.{ℕ, List, Some, ◌≡◌, slice_get}
use Rattle.endless_ring.specs.Endless.{IsSameEndless}
use Rattle.held_locks.specs.Kept.{LockView, locks_of}
use Rattle.lock_journal.specs.Counting.{SegmentView}

-- the same locks, whose rings have the same segments; each may have memory for more or fewer events
pub record AreEqualLocks (a b : List LockView) : Type 0 where
  pub locks : locks_of b ≡ locks_of a
  pub rings : (i : ℕ) (v w : LockView) → slice_get a i ≡ Some v → slice_get b i ≡ Some w
      → IsSameEndless v.ring w.ring

-- the same locks, with the same names, in segments that are as far from their end
pub record AreEqualSegments (a b : SegmentView) : Type 0 where
  pub locks : AreEqualLocks a.locks b.locks
  pub names : b.names ≡ a.names
  pub remaining : b.remaining ≡ a.remaining
  pub short : b.short ≡ a.short
