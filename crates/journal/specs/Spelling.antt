-- The text of a journal (this project's own): its first line, the saved text that it began with,
-- and a line for each call since.
use Rattle.std.specs.Prelude.{ℕ, ◌<◌, ◌^◌, List, ◌++◌, length, codes}
use Rattle.std.specs.List.{flat_map, AllByRecursion}
use Rattle.text_lines.specs.Spelling.{spaced}
use Rattle.saved_history.specs.Content.{Content}
use Rattle.saved_history.specs.Spelling.{text, event_line, survey_line, EventFits, SurveyFits, Fits}
use Rattle.journal.specs.declared.calls.Call.{Call}
use Rattle.journal.specs.declared.calls.Call.TheVariants.{Event, Survey}
use Rattle.journal.specs.declared.calls.JournalLine.{JournalLine}

-- the first line
abbrev pub first_line : List ℕ
first_line = codes "ringjournal 1\n"

-- the part before the calls: the first line, and the saved rings
abbrev pub journal_head : Content → List ℕ
journal_head began = first_line ++ text began

-- an event or a survey as in a saved text
abbrev pub call_line : Call → List ℕ
call_line (Event e) = event_line e
call_line (Survey s) = survey_line s

-- the same with the ring's number in front
abbrev pub journal_line : JournalLine → List ℕ
journal_line r = spaced r.ring ++ call_line r.call

-- a journal: the saved rings that it began with, and the calls since
pub record Journal : Type 0 where
  pub began : Content
  pub calls : List JournalLine

-- The text: the part before the calls, and a line for each call.
abbrev pub journal_text : Journal → List ℕ
journal_text j = journal_head j.began ++ flat_map journal_line j.calls

-- an event or a survey that has a line in this version
abbrev pub CallFits : ℕ → Call → Type 0
CallFits version (Event e) = EventFits version e
CallFits version (Survey s) = SurveyFits s

-- a call that has a line: it is of one of n rings
pub record JournalLineFits (version rings : ℕ) (r : JournalLine) : Type 0 where
  pub small : r.ring < 2 ^ 32
  pub ring : r.ring < rings
  pub call : CallFits version r.call

-- the journals that have a text: saved rings that have one, and calls of these rings that have
-- lines in their version
pub record JournalFits (j : Journal) : Type 0 where
  pub began : Fits j.began
  pub calls : AllByRecursion (JournalLineFits j.began.version (length j.began.rings)) j.calls
