-- Where the rings of locks are when these start (this project's own).
use Rattle.std.specs.Prelude.{◌≡◌, ℕ, ◌<◌, ◌≤◌, List, [], length, map, slice_get, Option, Some, None, ◌⊎◌}
use Rattle.ring_model.specs.Ring.{ring_with}
use Rattle.saved_history.specs.declared.saved.SavedRing.{SavedRing}
use Rattle.ring_check.specs.Table.{event_of}
use Rattle.ring_model.specs.declared.bases.Base.{Base}
use Rattle.one_thread_ring.specs.Texts.{surveys_told}
use Rattle.endless_ring.specs.Endless.{EndlessView}
use Rattle.held_locks.specs.Grants.{most_passes, repairs}
use Rattle.held_locks.specs.Locks.{Call}
use Rattle.held_locks.specs.Opened.{open_in, holder_after, HaveNoRoom}
use Rattle.held_locks.specs.Kept.{LockView, IsKeptRing, AreMade, state_of}
use Rattle.folder_of_locks.specs.declared.faults.StartFault.{StartFault}
use Rattle.fresh_rings.specs.Fresh.{Listed}
use Rattle.folder_of_locks.specs.declared.faults.StartFault.TheVariants as fault
pub use Rattle.fresh_rings.specs.Fresh.{IsFreshRing}

-- the ring is where that of a segment ended, after this base: with its start, its history and its
-- surveys
pub record IsResumed (b : Base) (saved : SavedRing) (e : EndlessView) : Type 0 where
  pub base : e.base ≡ b
  pub start : e.ring.book.start ≡ ring_with saved.k saved.start.items
  pub history : e.ring.book.history ≡ map event_of saved.events.items
  pub surveys : surveys_told e.ring.clients ≡ saved.surveys.items

-- The lock starts with this ring, which is kept, repaired. Nobody waits for it; a hold that is open in the ring's
-- history is client 0's.
pub record Starts (e : EndlessView) (v : LockView) : Type 0 where
  pub kept : IsKeptRing e
  pub repaired : AreMade e
      (map Call (repairs (most_passes (length e.ring.book.now.ring.values)) (state_of e))) v.ring
  pub queue : v.queue ≡ []
  pub holder : v.holder ≡ holder_after (open_in e)

-- a lock has its ring of the last segment, which is of its size, or, if there is none, a settled
-- ring
abbrev pub IsRingOf : Option Base → Option SavedRing → Listed → EndlessView → Type 0
IsRingOf (Some b) (Some s) l e = (s.n ≡ l.n) × (s.k ≡ l.k) × IsResumed b s e
IsRingOf None (Some s) l e = ⊥
IsRingOf b None l e = IsFreshRing l e

-- the locks there are start with their rings
abbrev pub AreEachBegun : List Base → List SavedRing → List Listed → List LockView → Type 0
AreEachBegun bs ss ls vs =
    (i : ℕ) (l : Listed) (v : LockView) → slice_get ls i ≡ Some l → slice_get vs i ≡ Some v
    → (e : EndlessView) × IsRingOf (slice_get bs i) (slice_get ss i) l e × Starts e v

-- Each lock of the list starts with its ring, and each ring of the segment has its lock.
pub record AreBegun (bs : List Base) (ss : List SavedRing) (ls : List Listed)
    (vs : List LockView) : Type 0 where
  pub rings : length ss ≤ length ls
  pub many : length vs ≡ length ls
  pub each : AreEachBegun bs ss ls vs

-- ---- refusals

-- the ring at this place is not of the size of its lock; or out of memory
abbrev pub IsRingFault : ℕ → Option SavedRing → Listed → StartFault → Type 0
IsRingFault place (Some s) l (fault.OtherRing i) =
    (i ≡ place) × (((s.n ≡ l.n) × (s.k ≡ l.k)) → ⊥)
IsRingFault place s l fault.OutOfMemory = Unit {0}
IsRingFault place s l _ = ⊥

-- There is no room for the lock at this place: there are as many before it as there may be, or its
-- ring has no room for its repair.
abbrev pub IsFull : ℕ → Option Base → Option SavedRing → Listed → StartFault → Type 0
IsFull place b s l e =
    (e ≡ fault.Full place)
    × ((before : List LockView)
    × (ring : EndlessView)
    × (length before ≡ place)
    × IsRingOf b s l ring
    × IsKeptRing ring
    × HaveNoRoom before ring)

-- There are more rings than locks; or the ring of a lock is not of its size, or there is no room for
-- it; or out of memory.
abbrev pub AreRingsRefused : List Base → List SavedRing → List Listed → StartFault → Type 0
AreRingsRefused bs ss ls e =
    ((e ≡ fault.OtherRing (length ls)) × (length ls < length ss))
    ⊎ ((place : ℕ)
    × (l : Listed)
    × (slice_get ls place ≡ Some l)
    × (IsRingFault place (slice_get ss place) l e
    ⊎ (IsFull place (slice_get bs place) (slice_get ss place) l e ⊎ (e ≡ fault.OutOfMemory))))
