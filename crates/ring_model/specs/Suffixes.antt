-- That the calm and the settled run are those of the longest suffixes of a history, by the places
-- where these begin.
use Rattle.std.specs.Prelude.{◌≡◌, ℕ, ◌<◌, ◌≤◌, ◌≢◌, true, false, List, length, take, drop}
use Rattle.ring_model.specs.History.{Works, State, after}
use Rattle.ring_model.specs.Surveys.{granted_count, corrupted_count, calm}
use Rattle.ring_model.specs.Grants.{is_settled_run, settled_run}
use Rattle.ring_model.specs.declared.events.Event.{Event}

-- the calm is the number of granted passes from some place p on, where no event from p on is a
-- corruption and from each earlier place on one is
abbrev pub CalmMeans : Type 0
CalmMeans =
    (h : List Event)
    → (p : ℕ)
    × (p ≤ length h)
    × (calm h ≡ granted_count (drop p h))
    × (corrupted_count (drop p h) ≡ 0)
    × ((q : ℕ) → q < p → corrupted_count (drop q h) ≢ 0)

-- the settled run is the part from some place p on, where it has no corruption and the ring is
-- settled before each of its events, and from no earlier place on is it so
abbrev pub SettledRunMeans : Type 0 → Type 0
SettledRunMeans C =
    (w : Works C) (a : State C) (h : List Event)
    → (p : ℕ)
    × (p ≤ length h)
    × (settled_run w a h ≡ drop p h)
    × (is_settled_run w (after w a (take p h)) (drop p h) ≡ true)
    × ((q : ℕ) → q < p → is_settled_run w (after w a (take q h)) (drop q h) ≡ false)
