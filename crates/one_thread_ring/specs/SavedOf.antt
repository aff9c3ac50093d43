-- The block of a ring in a saved text, as a plain function of it (this project's own).
use Rattle.std.specs.Prelude.{ℕ, List, [], ◌∷◌, map, length}
use Rattle.std.specs.List.{flat_map}
use Rattle.ring_model.specs.Ring.{Ring}
use Rattle.ring_model.specs.declared.events.Op.{Op}
use Rattle.ring_model.specs.declared.events.Op.TheVariants.{Pass, Member, Corrupt}
use Rattle.ring_model.specs.declared.events.Reply.{Reply}
use Rattle.ring_model.specs.declared.events.Reply.TheVariants.{Granted, Corrupted}
use Rattle.ring_model.specs.declared.events.Event.{Event}
use Rattle.ring_model.specs.declared.events.Survey.{Survey}
use Rattle.ring_model.specs.declared.events.Entry.{Entry}
use Rattle.ring_model.specs.declared.events.Entry.TheVariants as entry
use Rattle.ring_logs.specs.declared.logs.Log.{Log}
use Rattle.ring_logs.specs.declared.outcomes.RingOutcome.{RingOutcome}
use Rattle.saved_history.specs.declared.saved.SavedEvent.{SavedEvent}
use Rattle.saved_history.specs.declared.saved.SavedEvent.TheVariants as saved
use Rattle.saved_history.specs.declared.saved.SavedSurvey.{SavedSurvey}
use Rattle.saved_history.specs.Content.{Block}

-- the value that was there before a corruption; the written one, if the reply does not say it
abbrev pub old_of : ℕ → Reply → ℕ
old_of value (Corrupted old) = old
old_of value _ = value

-- The line of an event. If the reply does not fit the call, there is none: then it is here the line
-- of a refused pass for a pass, and of a corruption that changes nothing for a corruption. No history
-- has such an event.
abbrev pub saved_for : ℕ → Op → Reply → SavedEvent
saved_for seat (Pass machine order) (Granted number result) =
    saved.Granted seat machine order number result
saved_for seat (Pass machine order) _ = saved.Refused seat machine order
saved_for seat (Member machine order left) (Granted number result) =
    saved.Member seat machine order left number result
saved_for seat (Member machine order left) _ = saved.Refused seat machine order
saved_for seat (Corrupt machine value) reply =
    saved.Corrupted seat machine value (old_of value reply)

-- by an event
abbrev pub saved_event : Event → SavedEvent
saved_event e = saved_for e.seat e.op e.reply

-- the line of a seat's survey
abbrev pub saved_survey : ℕ → Survey → SavedSurvey
saved_survey seat s = record {
  seat = seat;
  position = s.position;
  privileged = s.privileged;
  first = s.first;
  calm = s.calm;
  rest = s.rest;
}

-- the surveys among a seat's entries, in their order; the receipts are not written, since the
-- history holds them
abbrev pub entry_surveys : ℕ → List Entry → List SavedSurvey
entry_surveys seat [] = []
entry_surveys seat (entry.Receipt r ∷ log) = entry_surveys seat log
entry_surveys seat (entry.Survey s ∷ log) = saved_survey seat s ∷ entry_surveys seat log

-- those of a log, with its seat
abbrev pub log_surveys : Log → List SavedSurvey
log_surveys l = entry_surveys l.seat l.entries.items

-- the block of a ring at its place: its start, its history, and surveys of it
abbrev pub block_by : ℕ → Ring → List Event → List SavedSurvey → Block
block_by place start history surveys = record {
  index = place;
  n = length start.values;
  k = start.k;
  start = start.values;
  events = map saved_event history;
  events_said = length history;
  surveys = surveys;
}

-- that of a ring that was closed: the surveys follow log by log
abbrev pub block_at : ℕ → RingOutcome → Block
block_at place r = block_by place r.book.start r.book.history (flat_map log_surveys r.logs.items)
