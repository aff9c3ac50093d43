-- The journal of rings that are served: its start, and the records of their turns (this
-- project's own).
use Rattle.std.specs.Prelude.{◌≡◌, ℕ, Bool, List, [], ◌∷◌, ◌++◌, map}
use Rattle.std.specs.List.{flat_map, AllByRecursion}
use Rattle.one_thread_ring.specs.Journals.{line_of_event, line_of_survey}
use Rattle.saved_history.specs.Spelling.{Fits}
use Rattle.journal.specs.declared.calls.JournalLine.{JournalLine}
use Rattle.journal.specs.Spelling.{Journal}
use Rattle.journal.specs.ContentAfter.{content_after}
use Rattle.journal.specs.Prefixes.{IsRightJournal}
use Rattle.ring_service.specs.Standings.{Standing}
use Rattle.ring_service.specs.Saved.{IsRight, content_of}
use Rattle.ring_service.specs.Turns.{RingTrace, events, surveyed, Turn, IsTurnOfLine}

-- the calls of a record: one for each event, or a survey
abbrev pub calls_of : RingTrace → List JournalLine
calls_of (events ring es) = map (line_of_event ring) es
calls_of (surveyed ring seat s) = line_of_survey ring seat s ∷ []

-- the journal of rings that were so when it began, and of the records since
abbrev pub journal_of : List Standing → List RingTrace → Journal
journal_of rings records = record { began = content_of rings; calls = flat_map calls_of records }

-- the turns of these lines, one after the other: their records, and the rings after them
abbrev pub AreTurns : Bool → List Standing → List (List ℕ) → List RingTrace → List Standing
    → Type 0
AreTurns faults old [] records new = (records ≡ []) × (new ≡ old)
AreTurns faults old (line ∷ lines) records new =
    (turn : Turn (List Standing))
    × (more : List RingTrace)
    × IsTurnOfLine faults old line turn
    × (records ≡ turn.recorded ++ more)
    × AreTurns faults turn.leaves lines more new

-- Rings that are right, and have a text, answer lines, whatever these are: the journal that begins
-- with the saved rings and has the records of the turns is right at each moment, and records the
-- rings as they are saved at the end.
abbrev pub JournalsAreRight : Type 0
JournalsAreRight =
    (faults : Bool) (old new : List Standing) (lines : List (List ℕ)) (records : List RingTrace)
    → AllByRecursion IsRight old → Fits (content_of old) → AreTurns faults old lines records new
    → IsRightJournal (journal_of old records)
    × (content_after (content_of old) (flat_map calls_of records) ≡ content_of new)
