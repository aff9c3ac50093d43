-- The lines of the turns in a journal: those of their records (this project's own).
use Rattle.std.specs.Prelude.{ℕ, List}
use Rattle.std.specs.List.{flat_map}
use Rattle.one_thread_ring.specs.Journals.{event_lines, line_of_survey}
use Rattle.journal.specs.Spelling.{journal_line}
use Rattle.ring_service.specs.Turns.{RingTrace, events, surveyed}

-- a line for each event, or for a survey
abbrev pub note : RingTrace → List ℕ
note (events ring es) = event_lines ring es
note (surveyed ring seat s) = journal_line (line_of_survey ring seat s)

-- the lines of all that was recorded
abbrev pub notes_of : List RingTrace → List ℕ
notes_of records = flat_map note records
