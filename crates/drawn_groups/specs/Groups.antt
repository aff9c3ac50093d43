-- Repairs in which drawn groups move at once (this project's own).
use Rattle.std.specs.Prelude.{ℕ, zero, suc, cond, List, [], ◌∷◌, slice_index, drop}
use Rattle.rand_pcg.specs.Lcg.{Lcg}
use Rattle.ring_model.specs.Ring.{Ring, is_settled}
use Rattle.ring_model.specs.Runs.{passed}
use Rattle.ring_model.specs.Groups.{move_order}
use Rattle.drawn_groups.specs.Drawn.{group}

-- The members that are still to pass, and the generator: where none is left of the last group, those
-- of the next one, in the order of the moves, in which the members' passes one after the other make
-- the group's move (`GroupsMoveAtOnce`).
unfoldable pub members_left : List ℕ → List ℕ → Lcg → List ℕ × Lcg
members_left s [] g = (move_order (group s g).0, (group s g).1)
members_left s (i ∷ left) g = (i ∷ left, g)

-- the machines that pass until the ring is settled, at most `most` of them: of the last group those
-- that come before
unfoldable pub group_choices : ℕ → List ℕ → Lcg → Ring → List ℕ
group_choices zero left g r = []
group_choices (suc most) left g r =
    cond (is_settled r.values) []
    (slice_index (members_left r.values left g).0 0
    ∷ group_choices most (drop 1 (members_left r.values left g).0) (members_left r.values left g).1
    (passed r (slice_index (members_left r.values left g).0 0)))
