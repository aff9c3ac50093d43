-- For which lock each client waits, as a list of entries (this project's own).
use Rattle.std.specs.Prelude.{◌≡◌, ℕ, true, nat_eq, List, slice_get, Option, Some}
use Rattle.std.specs.Map.{lookup}
use Rattle.held_locks.specs.Queues.{Lock, stands}

-- the lock of a client
abbrev pub lock_in : List (ℕ × ℕ) → ℕ → Option ℕ
lock_in entries c = lookup (nat_eq c) entries

-- the entries say where the clients are
pub record AreWaits (ls : List Lock) (entries : List (ℕ × ℕ)) : Type 0 where
  pub there : (c i : ℕ) → lock_in entries c ≡ Some i
      → (l : Lock) × (slice_get ls i ≡ Some l) × (stands c l.queue ≡ true)
  pub known : (c i : ℕ) (l : Lock) → slice_get ls i ≡ Some l → stands c l.queue ≡ true
      → lock_in entries c ≡ Some i
