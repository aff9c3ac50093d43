-- The effect of one move on the privileges.
use Rattle.std.specs.Prelude.{◌≡◌, ◌≢◌, ℕ, ◌<◌, ◌≤◌, false, length}
use Rattle.ring_model.specs.Ring.{Ring, is_privileged, privileged_count, right_neighbour}

-- from ring r to ring t no privilege has changed but machine i's and its right neighbour's
abbrev pub KeepsOthers : Ring → Ring → ℕ → Type 0
KeepsOthers r t i =
    (j : ℕ) → j < length r.values → j ≢ i → j ≢ right_neighbour r.values i
    → is_privileged t.values j ≡ is_privileged r.values j

-- closure: after machine i's move from r to t no more machines are privileged, machine i is not,
-- and of the others only its right neighbour may differ (this project's name for Dijkstra's demand
-- that legitimate states stay legitimate)
pub record IsClosed (r t : Ring) (i : ℕ) : Type 0 where
  pub count : privileged_count t.values ≤ privileged_count r.values
  pub mover : is_privileged t.values i ≡ false
  pub others : KeepsOthers r t i
