-- The next segments, and a ring more in the pool (this project's own).
use Rattle.std.specs.Prelude.{◌≡◌, ◌≢◌, ◌⊎◌, ◌+◌, ◌≤◌, List, None}
use Rattle.endless_ring.specs.Endless.{EndlessView}
use Rattle.held_locks.specs.Kept.{LockView, state_of}
use Rattle.held_locks.specs.Cuts.{AreNext}
use Rattle.held_locks.specs.Opened.{open_in, IsAdded, HaveNoRoom}
use Rattle.lock_names.specs.declared.growing.NotGrown.{NotGrown}
use Rattle.lock_names.specs.declared.growing.NotGrown.TheVariants as not_grown
use Rattle.lock_names.specs.Names.{More, step_named}
use Rattle.lock_names.specs.Kept.{NamedView, named_of, top_limit}

-- the rings continue in their next segments, and nothing of the state changes
pub record AreNextNames (old new : NamedView) : Type 0 where
  pub locks : AreNext old.locks new.locks
  pub named : named_of new ≡ named_of old

-- A lock of this ring was added, after the ring was repaired; no hold is open in its history. The
-- state is the machine's.
pub record IsGrown (old new : NamedView) (e : EndlessView) : Type 0 where
  pub added : IsAdded old.locks new.locks e
  pub free : open_in e ≡ None
  pub named : named_of new ≡ (step_named (named_of old) (More (state_of added.ring))).named

-- why it cannot
abbrev pub CannotGrow : NamedView → EndlessView → NotGrown → Type 0
CannotGrow v e not_grown.Held = open_in e ≢ None
CannotGrow v e not_grown.Full =
    HaveNoRoom v.locks e
    ⊎ ((vs : List LockView)
    × (a : IsAdded v.locks vs e)
    × (top_limit ≤ v.top + (state_of a.ring).grants))
CannotGrow v e not_grown.Memory = Unit {0}
