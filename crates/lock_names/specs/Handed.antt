-- A name's open hold that is handed to another client, after a start (this project's own).
use Rattle.std.specs.Prelude.{◌≡◌, ℕ, List, slice_get, Some}
use Rattle.held_locks.specs.Kept.{LockView}
use Rattle.held_locks.specs.Handed.{IsOpen, IsHanded}
use Rattle.lock_names.specs.Names.{Bound, token_in, found}
use Rattle.lock_names.specs.Kept.{NamedView}

-- The hold of the ring that has the name, which client 0 has with this token, is the client's now.
-- Nothing else has changed.
pub record IsHandedByName (old new : NamedView) (x : List ℕ) (token client : ℕ) : Type 0 where
  pub ring : ℕ
  pub bound : Bound
  pub named : found x old.names ≡ Some (ring, bound)
  pub number : ℕ
  pub token_is : token ≡ token_in bound number
  pub locks : IsHanded old.locks new.locks
      (record { lock = ring; token = number; client = client })
  pub names : new.names ≡ old.names
  pub fixed : new.fixed ≡ old.fixed
  pub top : new.top ≡ old.top

-- no ring has the name, or client 0 does not hold its ring with this token, or some client waits
abbrev pub CannotBeHandedByName : NamedView → List ℕ → ℕ → Type 0
CannotBeHandedByName v x token =
    (ring number : ℕ) (b : Bound) (l : LockView) → found x v.names ≡ Some (ring, b)
    → slice_get v.locks ring ≡ Some l → token ≡ token_in b number → ¬ IsOpen l number
