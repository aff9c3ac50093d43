-- A legal history described by its list of states.
use Rattle.std.specs.Prelude.{◌≡◌, ℕ, ◌+◌, ◌≤◌, List, [], ◌∷◌, length, take, Some, slice_get}
use Rattle.ring_model.specs.History.{Works, State, Step, after, IsLegal}
use Rattle.ring_model.specs.declared.events.Event.{Event}

-- the states begin with a and run through the events, one more than events, with a step between
-- each two neighbours
abbrev pub RunsThrough : {C : Type 0} → Works C → State C → List Event → List (State C) → Type 0
RunsThrough w a [] states = states ≡ a ∷ []
RunsThrough {C = C} w a (e ∷ es) states =
    (b : State C)
    × Step w a e b
    × ((rest : List (State C)) × (states ≡ a ∷ rest) × RunsThrough w b es rest)

-- a history is legal just where some list of states runs through it
abbrev pub LegalWhereRuns : Type 0 → Type 0
LegalWhereRuns C =
    (w : Works C) (a : State C) (h : List Event)
    → (IsLegal w a h → (states : List (State C)) × RunsThrough w a h states)
    × ((states : List (State C)) → RunsThrough w a h states → IsLegal w a h)

-- that list is unique
abbrev pub StatesAreUnique : Type 0 → Type 0
StatesAreUnique C =
    (w : Works C) (a : State C) (h : List Event) (states others : List (State C))
    → RunsThrough w a h states → RunsThrough w a h others → states ≡ others

-- it has one state for each place, and that at place p is the state after the first p events
abbrev pub StatesAreAfter : Type 0 → Type 0
StatesAreAfter C =
    (w : Works C) (a : State C) (h : List Event) (states : List (State C))
    → RunsThrough w a h states
    → (length states ≡ length h + 1)
    × ((p : ℕ) → p ≤ length h → slice_get states p ≡ Some (after w a (take p h)))
