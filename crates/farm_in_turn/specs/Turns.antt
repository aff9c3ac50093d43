-- The turns in which one thread does the actions of the seats of a ring: the next seat is drawn
-- among those that have an action left (this project's own).
use Rattle.std.specs.Prelude.{ℕ, zero, suc, ◌+◌, List, [], ◌∷◌, drop, length, slice_index, slice_index_or, slice_set}
use Rattle.std.specs.List.{sum_by}
use Rattle.rand_pcg.specs.Lcg.{Lcg}
use Rattle.ring_repairs.specs.Draws.{draw}
use Rattle.ring_settings.specs.declared.actions.Action.{Action}
use Rattle.ring_settings.specs.declared.actions.Action.TheVariants.{Survey}

-- a turn: a seat, and the action that it does
pub record Turn : Type 0 where
  pub seat : ℕ
  pub action : Action

-- the actions that this seat has left
abbrev pub left_of : List (List Action) → ℕ → List Action
left_of left seat = slice_index_or left seat []

-- how many actions are left
abbrev pub count_left : List (List Action) → ℕ
count_left left = sum_by (λ actions. length actions) left

-- the numbers of the seats that have an action left, in order, where the first has this number
unfoldable pub waiting_from : ℕ → List (List Action) → List ℕ
waiting_from seat [] = []
waiting_from seat ([] ∷ left) = waiting_from (seat + 1) left
waiting_from seat ((a ∷ actions) ∷ left) = seat ∷ waiting_from (seat + 1) left

abbrev pub waiting : List (List Action) → List ℕ
waiting left = waiting_from 0 left

-- the seat of the next turn: each that has an action left is as likely as each other; and the
-- generator after the draw
unfoldable pub next_seat : Lcg → List (List Action) → ℕ × Lcg
next_seat g left =
    let drawn = draw (length (waiting left)) g in (slice_index (waiting left) drawn.0, drawn.1)

-- the first action that this seat has left
abbrev pub next_action : List (List Action) → ℕ → Action
next_action left seat = slice_index_or (left_of left seat) 0 (Survey 0)

-- the actions that are left after a turn of this seat
abbrev pub left_after : List (List Action) → ℕ → List (List Action)
left_after left seat = slice_set left seat (drop 1 (left_of left seat))

-- the next turns, as many as this
unfoldable pub turns_within : ℕ → Lcg → List (List Action) → List Turn
turns_within zero g left = []
turns_within (suc more) g left =
    let next = next_seat g left in
    record { seat = next.0; action = next_action left next.0 }
    ∷ turns_within more next.1 (left_after left next.0)

-- all turns, until no seat has an action left
abbrev pub turns : Lcg → List (List Action) → List Turn
turns g left = turns_within (count_left left) g left
