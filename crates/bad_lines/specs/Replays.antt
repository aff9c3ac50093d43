-- A history with the one-thread ring's own replies, and the place of a replay in it.
use Rattle.std.specs.Prelude.{◌≡◌, ℕ, ◌≤◌, List, [], ◌∷◌, length, map, take, true}
use Rattle.ring_model.specs.Ring.{Ring}
use Rattle.ring_model.specs.declared.events.Event.{Event}
use Rattle.ring_model.specs.History.{State, next, reply, after}
use Rattle.ring_model.specs.Resources.{till}
use Rattle.ring_model.specs.Surveys.{calm}
use Rattle.saved_history.specs.declared.saved.SavedEvent.{SavedEvent}
use Rattle.ring_check.specs.Table.{Before, event_of, first_state, in_range}
use Rattle.bad_lines.specs.declared.replay.Replay.{Replay}
use Rattle.bad_lines.specs.declared.surveys.Mark.{Mark}

-- an event with the one-thread ring's own reply in this state
abbrev pub own : State ℕ → Event → Event
own a e = record e { reply = reply till a e.op }

-- so each of these events, one after the other
abbrev pub own_all : State ℕ → List Event → List Event
own_all a [] = []
own_all a (e ∷ es) = own a e ∷ own_all (next till a e.op) es

-- the state of the one-thread ring that a replay holds
abbrev pub state_of : Replay → State ℕ
state_of r = record { ring = r.state; content = r.amount; grants = r.grants }

-- A replay is after these events of a ring, which had the ring's own replies; it counts no more
-- grants than there are events.
pub record Stands (start : Ring) (h : List Event) (r : Replay) : Type 0 where
  pub state : after till (first_state start) h ≡ state_of r
  pub calm : calm (own_all (first_state start) h) ≡ r.calm
  pub grants : r.grants ≤ length h
  pub short : r.calm ≤ length h

-- each of these events is a call that the ring of n machines can answer
abbrev pub AreCallable : ℕ → State ℕ → List Event → Type 0
AreCallable n a [] = Unit {0}
AreCallable n a (e ∷ es) =
    (in_range n a.ring.k e ≡ true) × AreCallable n (next till a e.op) es

-- the ring is at the place of the last survey that was in its place
pub record IsMark (start : Ring) (es : List SavedEvent) (m : Mark) : Type 0 where
  pub within : m.position ≤ length es
  pub stands : Stands start (map event_of (take m.position es)) m.replay

-- among the surveys of a ring with these events, after one of this seat and position in its place
abbrev pub marked : ℕ → ℕ → ℕ → Ring → List SavedEvent → ℕ → ℕ → Before
marked version line rings start es seat position = record {
  version = version;
  line = line;
  rings = rings;
  n = length start.values;
  k = start.k;
  start = start.values;
  events = own_all (first_state start) (map event_of es);
  seat = seat;
  position = position;
}
