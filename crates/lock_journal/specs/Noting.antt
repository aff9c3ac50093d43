-- The lines that clients get of an answer, and what the journal gets of it (this project's own).
use Rattle.std.specs.Prelude.{ℕ, List, Option, None, Some, slice_get, [], ◌∷◌, ◌++◌, drop}
use Rattle.std.specs.List.{flat_map}
use Rattle.journal.specs.Spelling.{journal_line}
use Rattle.one_thread_ring.specs.Journals.{event_lines, line_of_survey}
use Rattle.held_locks.specs.declared.answers.Answer.{Answer}
use Rattle.held_locks.specs.declared.answers.HoldEnd.{HoldEnd}
use Rattle.held_locks.specs.declared.answers.Left.{Left}
use Rattle.held_locks.specs.Kept.{LockView, other_grant}
use Rattle.held_locks.specs.Asked.{events_at}
use Rattle.lock_protocol.specs.Names.{Names, name_of}
use Rattle.lock_protocol.specs.Answers.{answer_line}

-- the lines of answers about a lock, which is named
abbrev pub lines_about : Names → ℕ → List (ℕ × Answer) → List ℕ
lines_about names lock [] = []
lines_about names lock ((c, a) ∷ more) =
    answer_line c (name_of names lock) a ++ lines_about names lock more

-- the lines of its events from a place on
abbrev pub events_from : ℕ → ℕ → Option LockView → List ℕ
events_from lock place None = []
events_from lock place (Some v) = event_lines lock (drop place v.ring.ring.book.history)

-- the line of the end of a hold
abbrev pub end_line : ℕ → Option HoldEnd → List ℕ
end_line lock None = []
end_line lock (Some e) = journal_line (line_of_survey lock e.seat e.survey)

-- what the journal gets of an answer about a lock: the end of a hold, and then the new events
abbrev pub note_about : ℕ → List LockView → List LockView → Option HoldEnd → List ℕ
note_about lock old new ended =
    end_line lock ended ++ events_from lock (events_at (slice_get old lock)) (slice_get new lock)

-- the same of a client that leaves all locks: of each that it held, where the survey of the end says
-- how many events there were
abbrev pub line_of_left : Names → Left → List ℕ
line_of_left names l = lines_about names l.lock (other_grant l.granted)

abbrev pub note_of_left : List LockView → Left → List ℕ
note_of_left new l =
    end_line l.lock (Some l.ended)
    ++ events_from l.lock l.ended.survey.position (slice_get new l.lock)

abbrev pub lines_of_left : Names → List Left → List ℕ
lines_of_left names left = flat_map (line_of_left names) left

abbrev pub notes_of_left : List LockView → List Left → List ℕ
notes_of_left new left = flat_map (note_of_left new) left
