-- The counts of a log (this project's own).
use Rattle.std.specs.Prelude.{ℕ, Bool, true, false, List, count_by}
use Rattle.ring_model.specs.declared.events.Entry.{Entry}
use Rattle.ring_model.specs.declared.events.Entry.TheVariants as entry

-- an entry that is a survey, and how many surveys a seat's entries have
abbrev pub is_survey : Entry → Bool
is_survey (entry.Receipt r) = false
is_survey (entry.Survey s) = true

abbrev pub survey_count : List Entry → ℕ
survey_count entries = count_by is_survey entries
