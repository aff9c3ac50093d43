-- The served rings, over a till, each with its segment: the base, the start, the history, and the
-- surveys that its clients were given (this project's own). A segment counts by itself.
use Rattle.std.specs.Prelude.{ℕ, ◌<◌, List, [], ◌∷◌, ◌++◌, length, slice_index_or}
use Rattle.ring_model.specs.Ring.{Ring}
use Rattle.ring_model.specs.History.{State, opening, after, reply}
use Rattle.ring_model.specs.GroupLaws.{block_of}
use Rattle.ring_model.specs.Groups.{move_order}
use Rattle.ring_model.specs.Resources.{till}
use Rattle.ring_model.specs.Surveys.{survey_at}
use Rattle.ring_model.specs.declared.events.Op.{Op}
use Rattle.ring_model.specs.declared.events.Event.{Event}
use Rattle.ring_model.specs.declared.events.Survey.{Survey}
use Rattle.ring_model.specs.declared.events.Entry.TheVariants as entry
use Rattle.ring_logs.specs.LogView.{LogView}
use Rattle.ring_logs.specs.Seats.{receipts_from}
use Rattle.one_thread_ring.specs.Rings.{told_more}
use Rattle.ring_model.specs.declared.bases.Base.{Base}
use Rattle.ring_model.specs.Bases.{is_quiet, shifted_survey}
use Rattle.endless_ring.specs.Endless.{EndlessView, IsEndless}

-- a ring that is served
pub record Standing : Type 0 where
  pub base : Base
  pub start : Ring
  pub history : List Event
  pub clients : List LogView

abbrev pub standing_of : EndlessView → Standing
standing_of e = record {
  base = e.base;
  start = e.ring.book.start;
  history = e.ring.book.history;
  clients = e.ring.clients;
}

-- the state of the one-thread ring at the end of the history
abbrev pub state_of : Standing → State ℕ
state_of r = after till (opening r.start 0) r.history

-- the event that a seat's call makes now
abbrev pub event_now : Standing → ℕ → Op → Event
event_now r seat op = record { seat = seat; op = op; reply = reply till (state_of r) op }

-- the events that a seat's group pass makes now
abbrev pub block_now : Standing → ℕ → ℕ → List ℕ → List Event
block_now r seat order machines = block_of till (state_of r) seat order (move_order machines)

-- the survey of the end of the history
abbrev pub survey_now : Standing → Survey
survey_now r = survey_at till (opening r.start 0) r.history (length r.history)

-- the same, counted from the first event of all
abbrev pub shifted_survey_now : Standing → Survey
shifted_survey_now r = shifted_survey r.base (is_quiet r.history) (survey_now r)

-- the ring with more events of a seat, which has their receipts
abbrev pub with_events : Standing → ℕ → List Event → Standing
with_events r seat es = record {
  base = r.base;
  start = r.start;
  history = r.history ++ es;
  clients = told_more r.clients seat (receipts_from (length r.history) es);
}

-- the ring with a survey more that a seat was given
abbrev pub with_survey : Standing → ℕ → Survey → Standing
with_survey r seat s = record {
  base = r.base;
  start = r.start;
  history = r.history;
  clients = told_more r.clients seat (entry.Survey s ∷ []);
}

-- each of the rings is, at every moment, a ring without end with its clients' logs
abbrev pub AreRight : List EndlessView → Type 0
AreRight rings =
    (i : ℕ) (e : EndlessView) → i < length rings → IsEndless (slice_index_or rings i e)
