-- The place of a replay.
use Rattle.std.specs.Prelude.{◌≡◌, true, ℕ, ◌≤◌, List, length, map, take}
use Rattle.ring_model.specs.declared.events.Event.{Event}
use Rattle.ring_model.specs.declared.events.Survey.{Survey}
use Rattle.ring_model.specs.Ring.{Ring, ring_with, IsRing, privileged_count, first_privileged, rest}
use Rattle.ring_model.specs.History.{State, after}
use Rattle.ring_model.specs.Resources.{till}
use Rattle.ring_model.specs.Surveys.{calm}
use Rattle.saved_history.specs.declared.saved.SavedEvent.{SavedEvent}
use Rattle.ring_check.specs.declared.replay.Replay.{Replay}
use Rattle.ring_check.specs.declared.gauge.Gauge.{Gauge}
use Rattle.ring_check.specs.declared.surveys.Reading.{Reading}
use Rattle.ring_check.specs.Gauges.{ring_of, IsGauge}
use Rattle.ring_check.specs.Table.{event_of, first_state}

-- the state of the one-thread ring that a replay holds
abbrev pub state_of : Replay → State ℕ
state_of r = record { ring = ring_with r.k r.values.items; content = r.amount; grants = r.grants }

-- the answer of a survey at the place of a replay
abbrev pub survey_where : Replay → ℕ → Survey
survey_where r position = record {
  position = position;
  privileged = privileged_count r.values.items;
  first = first_privileged r.values.items;
  calm = r.calm;
  rest = rest (ring_with r.k r.values.items);
}

-- a replay has the state of the ring after these events
pub record Stands (start : Ring) (h : List Event) (r : Replay) : Type 0 where
  pub state : after till (first_state start) h ≡ state_of r
  pub same_k : r.k ≡ start.k
  pub calm : r.calm ≡ calm h
  pub ring : IsRing (ring_with r.k r.values.items)

-- a replay is after the first n events of a block, with no more grants than events
pub record StandsAt (start : Ring) (events : List SavedEvent) (place : ℕ) (r : Replay) : Type 0
  where
    pub stands : Stands start (map event_of (take place events)) r
    pub grants : r.grants ≤ place
    pub calm : r.calm ≤ place

-- a gauge measures the ring that a replay holds
pub record Measures (g : Gauge) (r : Replay) : Type 0 where
  pub gauge : IsGauge g
  pub same : ring_of g ≡ (state_of r).ring

-- a survey has the measures of a ring
pub record Tells (s : Survey) (r : Ring) : Type 0 where
  pub privileged : s.privileged ≡ privileged_count r.values
  pub first : s.first ≡ first_privileged r.values
  pub rest : s.rest ≡ rest r

-- the survey of a reading still has the measures of its ring, if it says that they are unchanged
abbrev pub TellsStill : Reading → Type 0
TellsStill r = r.unchanged ≡ true → Tells r.survey (state_of r.replay).ring

-- a reading has the survey of the ring at the place of its replay, and a gauge of it
pub record IsReading (start : Ring) (events : List SavedEvent) (r : Reading) : Type 0 where
  pub stands : StandsAt start events r.survey.position r.replay
  pub within : r.survey.position ≤ length events
  pub right : r.survey ≡ survey_where r.replay r.survey.position
  pub measured : Measures r.gauge r.replay
