-- The members of a group that are still to pass, as they are kept.
use Rattle.std.specs.Prelude.{◌≡◌, ℕ, ◌≤◌, List, length, take, drop}
use Rattle.ring_model.specs.Groups.{move_order, least_left_out}
use Rattle.drawn_groups.specs.declared.groups.Place.{Place}

-- those that are still to pass, in the order of the moves, where the first machines that are kept are
-- the group's
unfoldable pub left_in : List ℕ → Place → List ℕ
left_in machines p = drop p.turn (move_order (take p.count machines))

-- what is kept of a group is right
pub record IsPlace (machines : List ℕ) (p : Place) : Type 0 where
  pub count : p.count ≤ length machines
  pub turn : p.turn ≤ p.count
  pub least : p.least ≡ least_left_out 0 (take p.count machines)
