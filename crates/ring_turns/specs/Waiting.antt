-- The clients that wait for a turn, and the facts that a client that waited has of the others (this
-- project's own).
use Rattle.std.specs.Prelude.{◌≡◌, ◌≢◌, ℕ, ◌+◌, ◌%◌, ◌<◌, ◌≤◌, true, List, Option, Some, slice_get, length, drop}
use Rattle.ring_model.specs.Ring.{is_settled}
use Rattle.ring_model.specs.History.{Works, State}
use Rattle.ring_model.specs.Grants.{grants_of}
use Rattle.ring_model.specs.HistoryLaws.{values_at, between, NoCorruption}
use Rattle.ring_model.specs.declared.events.Event.{Event}

-- each client that waits asked at a place of the history, and its machine was granted nothing since
abbrev pub AreWaiting : List (Option ℕ) → List Event → Type 0
AreWaiting waits h =
    (i p : ℕ) → slice_get waits i ≡ Some (Some p) → (p ≤ length h) × (grants_of i (drop p h) ≡ 0)

-- client i waits no more, and each other client waits as it did
pub record HasLeft (before after : List (Option ℕ)) (i : ℕ) : Type 0 where
  pub gone : (p : ℕ) → slice_get after i ≡ Some (Some p) → ⊥
  pub others : (j : ℕ) → j ≢ i → slice_get after j ≡ slice_get before j

-- From place p to place q machine i was granted nothing; and, with no corruption between, the
-- machine d steps to its right was granted at most d passes, and each machine at most one if the
-- ring was settled at p.
pub record HasWaited {C : Type 0} (w : Works C) (a : State C) (h : List Event) (i p q : ℕ) : Type 0
  where
    pub ordered : p ≤ q
    pub none : grants_of i (between h p q) ≡ 0
    pub few : NoCorruption h p q → (d : ℕ)
        → grants_of ((i + d) % length a.ring.values) (between h p q) ≤ d
    pub once : NoCorruption h p q → is_settled (values_at w a h p) ≡ true → (j : ℕ)
        → j < length a.ring.values → grants_of j (between h p q) ≤ 1
