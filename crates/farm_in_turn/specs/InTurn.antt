-- The run of a ring in turns, as a function of the settings and the seed (this project's own).
use Rattle.std.specs.Prelude.{◌≡◌, ℕ, List, [], ◌∷◌, ◌++◌, length, map}
use Rattle.std.specs.List.{range_with_len}
use Rattle.ring_model.specs.Ring.{Ring}
use Rattle.ring_model.specs.History.{opening, after, reply}
use Rattle.ring_model.specs.Resources.{till}
use Rattle.ring_model.specs.Surveys.{survey_at}
use Rattle.ring_model.specs.declared.events.Op.{Op}
use Rattle.ring_model.specs.declared.events.Op.TheVariants as op
use Rattle.ring_model.specs.declared.events.Event.{Event}
use Rattle.ring_model.specs.declared.events.Receipt.{Receipt}
use Rattle.ring_model.specs.declared.events.Survey.{Survey}
use Rattle.ring_model.specs.declared.events.Entry.TheVariants as entry
use Rattle.ring_logs.specs.LogView.{LogView}
use Rattle.ring_logs.specs.declared.outcomes.RingOutcome.{RingOutcome}
use Rattle.one_thread_ring.specs.Rings.{told_more, AreLogsOf}
use Rattle.ring_repairs.specs.Draws.{generator}
use Rattle.ring_settings.specs.Contents.{SettingsData, RingData, plans_of}
use Rattle.ring_settings.specs.declared.actions.Action.{Action}
use Rattle.ring_settings.specs.declared.actions.Action.TheVariants as action
use Rattle.ring_farm.specs.Plans.{part}
use Rattle.ring_farm.specs.Runs.{ring_of_data}
use Rattle.ring_farm.specs.Headline.{EachRing}
use Rattle.ring_farm.specs.declared.outcomes.Outcome.{Outcome}
use Rattle.farm_in_turn.specs.Turns.{Turn, turns}

-- what a run has so far: the history, and the log of each seat
pub record Run : Type 0 where
  pub history : List Event
  pub logs : List LogView

-- the event of a call, on the ring that started so and has this history
abbrev pub event_of : Ring → List Event → ℕ → Op → Event
event_of start h seat op = record {
  seat = seat;
  op = op;
  reply = reply till (after till (opening start 0) h) op;
}

-- the run after a call: its event is at the end of the history, and its receipt in the seat's log
abbrev pub with_call : Ring → Run → ℕ → Op → Run
with_call start run seat op =
    let receipt : Receipt = record {
      position = length run.history;
      event = event_of start run.history seat op;
    } in record {
      history = run.history ++ event_of start run.history seat op ∷ [];
      logs = told_more run.logs seat (entry.Receipt receipt ∷ []);
    }

-- the run after a survey, which is in the seat's log
abbrev pub with_survey : Ring → Run → ℕ → Run
with_survey start run seat =
    let survey : Survey =
    survey_at till (opening start 0) run.history (length run.history) in record {
      history = run.history;
      logs = told_more run.logs seat (entry.Survey survey ∷ []);
    }

-- the run after an action of a seat
abbrev pub with_action : Ring → Run → ℕ → Action → Run
with_action start run seat (action.Pass ring machine order) =
    with_call start run seat (op.Pass machine order)
with_action start run seat (action.Corrupt ring machine value) =
    with_call start run seat (op.Corrupt machine value)
with_action start run seat (action.Survey ring) = with_survey start run seat

-- the run after these turns, one after the other
unfoldable pub after_turns : Ring → Run → List Turn → Run
after_turns start run [] = run
after_turns start run (t ∷ ts) = after_turns start (with_action start run t.seat t.action) ts

-- no event, and an empty log for each of this many seats
abbrev pub new_run : ℕ → Run
new_run seats = record {
  history = [];
  logs = map (λ (seat : ℕ). record { number = seat; log = [] }) (range_with_len 0 seats);
}

-- the part of each seat's plan that is for this ring
abbrev pub parts_of : SettingsData → ℕ → List (List Action)
parts_of settings ring = map (part ring) (plans_of settings)

-- the run of a ring of the settings in turns: the number of the ring is the stream of its generator
unfoldable pub in_turn : SettingsData → ℕ → ℕ → RingData → Run
in_turn settings seed ring d =
    after_turns (ring_of_data d) (new_run (length settings.seats))
    (turns (generator seed ring) (parts_of settings ring))

-- the outcome of a ring is that run
pub record IsInTurn (settings : SettingsData) (seed ring : ℕ) (d : RingData) (r : RingOutcome) :
    Type 0 where
  pub history : r.book.history ≡ (in_turn settings seed ring d).history
  pub logs : AreLogsOf (in_turn settings seed ring d).logs r.logs.items

-- so it is with each ring of the settings
abbrev pub AreInTurn : SettingsData → ℕ → Outcome → Type 0
AreInTurn settings seed o = EachRing (IsInTurn settings seed) settings o
