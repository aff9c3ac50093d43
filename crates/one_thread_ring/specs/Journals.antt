-- The record of a ring's calls in a journal (this project's own).
use Rattle.std.specs.Prelude.{ℕ, List}
use Rattle.std.specs.List.{flat_map}
use Rattle.ring_model.specs.declared.events.Event.{Event}
use Rattle.ring_model.specs.declared.events.Survey.{Survey}
use Rattle.journal.specs.declared.calls.Call.TheVariants as call
use Rattle.journal.specs.declared.calls.JournalLine.{JournalLine}
use Rattle.journal.specs.Spelling.{journal_line}
use Rattle.one_thread_ring.specs.SavedOf.{saved_event, saved_survey}

-- an event of the ring of this number
abbrev pub line_of_event : ℕ → Event → JournalLine
line_of_event ring e = record { ring = ring; call = call.Event (saved_event e) }

-- a survey that a seat of it was given
abbrev pub line_of_survey : ℕ → ℕ → Survey → JournalLine
line_of_survey ring seat s = record { ring = ring; call = call.Survey (saved_survey seat s) }

-- the lines of some events, one after the other
abbrev pub event_lines : ℕ → List Event → List ℕ
event_lines ring events = flat_map (λ e. journal_line (line_of_event ring e)) events
