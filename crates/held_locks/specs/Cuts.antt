-- Locks whose rings continue in their next segments (this project's own).
use Rattle.std.specs.Prelude.{◌≡◌, ℕ, ◌+◌, ◌<◌, ◌≤◌, ◌⊎◌, List, [], ◌∷◌, length, slice_get, Some}
use Rattle.ring_model.specs.Limits.{event_limit}
use Rattle.ring_model.specs.Bases.{IsBase, base_after}
use Rattle.endless_ring.specs.Endless.{EndlessView, IsNextRing}
use Rattle.held_locks.specs.declared.answers.Refusal.{Refusal}
use Rattle.held_locks.specs.declared.answers.Refusal.TheVariants as refusal
use Rattle.held_locks.specs.Promises.{carries}
use Rattle.held_locks.specs.Kept.{LockView, lock_of, IsKeptRing, AreMade}

-- The ring of a lock's next segment continues from the end of this segment, and its history has no
-- event except the one that carries the open hold. It has room for a grant to each client that waits.
pub record IsNextOf (v : LockView) (next : EndlessView) : Type 0 where
  pub empty : EndlessView
  pub kept : IsKeptRing empty
  pub begun : IsNextRing v.ring empty
  pub carried : AreMade empty (carries (lock_of v)) next
  pub ring : IsKeptRing next
  pub room : length v.queue ≤ next.ring.book.room

-- there is none: no segment has room after this one, or for a grant to each client that waits; or
-- there is no memory
abbrev pub IsNoNext : LockView → Refusal → Type 0
IsNoNext v why =
    ((why ≡ refusal.Full)
    × ((¬ IsBase (base_after v.ring.base v.ring.ring.book.start v.ring.ring.book.history))
    ⊎ (event_limit < length v.queue + 1)))
    ⊎ (why ≡ refusal.Memory)

-- the lock continues in its next segment, and nothing of it changes
pub record IsNextLock (old new : LockView) : Type 0 where
  pub ring : IsNextOf old new.ring
  pub same : lock_of new ≡ lock_of old

-- each of the locks, one by one
abbrev pub AreNext : List LockView → List LockView → Type 0
AreNext [] new = new ≡ []
AreNext (v ∷ vs) [] = ⊥
AreNext (v ∷ vs) (w ∷ ws) = IsNextLock v w × AreNext vs ws

-- they do not: one of the rings has no next segment, or there is no memory
abbrev pub HaveNoNext : List LockView → Refusal → Type 0
HaveNoNext locks why =
    ((i : ℕ) × (v : LockView) × (slice_get locks i ≡ Some v) × IsNoNext v why)
    ⊎ (why ≡ refusal.Memory)
