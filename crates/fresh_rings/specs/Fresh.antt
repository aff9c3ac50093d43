-- The rings of locks that have no history (this project's own).
use Rattle.std.specs.Prelude.{◌≡◌, ℕ, List, [], replicate}
use Rattle.ring_state.specs.Sizes.{Size}
use Rattle.held_locks.specs.Kept.{seat_count}
use Rattle.ring_model.specs.Ring.{ring_with}
use Rattle.ring_model.specs.Bases.{no_base}
use Rattle.one_thread_ring.specs.Rings.{AreFresh}
use Rattle.endless_ring.specs.Endless.{EndlessView}

-- a lock of a list: its name, how many machines its ring has, and how many values each can hold
pub record Listed : Type 0 where
  pub name : List ℕ
  pub n : ℕ
  pub k : ℕ

-- a ring of the pool, as a lock without a name
abbrev pub pool_ring : Size → Listed
pool_ring s = record { name = []; n = s.n; k = s.k }

-- the ring of a lock that has no history: all its machines have the value 0, so it is settled
pub record IsFreshRing (l : Listed) (e : EndlessView) : Type 0 where
  pub base : e.base ≡ no_base
  pub start : e.ring.book.start ≡ ring_with l.k (replicate l.n 0)
  pub history : e.ring.book.history ≡ []
  pub clients : AreFresh seat_count e.ring.clients
