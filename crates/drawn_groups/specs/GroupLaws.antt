-- The laws of repairs in which drawn groups move at once.
use Rattle.std.specs.Prelude.{◌≡◌, ℕ, ◌<◌, ◌≤◌, true, false, List, [], length, take}
use Rattle.rand_pcg.specs.Lcg.{Lcg}
use Rattle.ring_model.specs.Ring.{Ring, IsRing, is_settled, bound}
use Rattle.ring_model.specs.Runs.{after_passes, granted_passes}
use Rattle.ring_model.specs.RepairLaws.{longest_repair}
use Rattle.ring_model.specs.Groups.{GroupMove, move_order}
use Rattle.ring_model.specs.GroupLaws.{CanMove}
use Rattle.drawn_groups.specs.Drawn.{group}
use Rattle.drawn_groups.specs.Groups.{group_choices}

-- a drawn group can move: it rises, it has a machine and leaves one out, and each is privileged
abbrev pub GroupsCanMove : Type 0
GroupsCanMove = (r : Ring) (g : Lcg) → IsRing r → CanMove r.values (group r.values g).0

-- and its members, each of which passes in the order of the moves, together move at once: each then
-- holds what its own move from the state before the group gives
abbrev pub GroupsMoveAtOnce : Type 0
GroupsMoveAtOnce =
    (r : Ring) (g : Lcg) → IsRing r
    → (granted_passes r (move_order (group r.values g).0) ≡ move_order (group r.values g).0)
    × GroupMove r (group r.values g).0 (after_passes r (move_order (group r.values g).0))

-- the machines that pass in a repair, which are no more than the longest repair has
abbrev pub repair_choices : Lcg → Ring → List ℕ
repair_choices g r = group_choices (longest_repair (length r.values)) [] g r

-- each pass is granted, they settle the ring, and fewer do not
abbrev pub GroupsSettle : Type 0
GroupsSettle =
    (r : Ring) (g : Lcg) → IsRing r
    → (granted_passes r (repair_choices g r) ≡ repair_choices g r)
    × (is_settled (after_passes r (repair_choices g r)).values ≡ true)
    × ((p : ℕ) → p < length (repair_choices g r)
    → is_settled (after_passes r (take p (repair_choices g r))).values ≡ false)

-- so there are no more than the longest repair has, nor than the bound
abbrev pub GroupsAreBounded : Type 0
GroupsAreBounded =
    (r : Ring) (g : Lcg) → IsRing r
    → (length (repair_choices g r) ≤ longest_repair (length r.values))
    × (length (repair_choices g r) ≤ bound (length r.values))
