-- A saved text as its lines, except for the first one, which says its version (this project's own).
use Rattle.std.specs.Prelude.{ℕ, ◌+◌, ◌≤◌, ◌<◌, ◌^◌, List, [], ◌∷◌, ◌++◌, map, length, Ok}
use Rattle.std.specs.List.{flat_map}
use Rattle.saved_history.specs.declared.saved.SavedEvent.{SavedEvent}
use Rattle.saved_history.specs.declared.saved.SavedSurvey.{SavedSurvey}
use Rattle.saved_history.specs.declared.saved.Saved.{Saved}
use Rattle.saved_history.specs.Content.{Content, Block, content}
use Rattle.saved_history.specs.Spelling.{text}
use Rattle.saved_history.specs.Meaning.{IsRightRead}

-- a line with what it says: R, N and K; the start values; an event; how many events; a survey; how
-- many blocks
pub data Line : Type 0 where
  RingLine : ℕ → ℕ → ℕ → Line
  StartLine : List ℕ → Line
  EventLine : SavedEvent → Line
  EndLine : ℕ → Line
  SurveyLine : SavedSurvey → Line
  DoneLine : ℕ → Line

-- the lines of a block, in order
abbrev pub block_lines : Block → List Line
block_lines b =
    RingLine b.index b.n b.k ∷ StartLine b.start
    ∷ (map EventLine b.events ++ (EndLine b.events_said ∷ map SurveyLine b.surveys))

-- the lines of a text from its second line on
abbrev pub lines : Content → List Line
lines s = flat_map block_lines s.rings ++ DoneLine s.rings_said ∷ []

-- a text has a byte at least for each of its lines, the first one too
abbrev pub LinesAreFew : Type 0
LinesAreFew = (s : Content) → length (lines s) + 1 ≤ length (text s)

-- A value that was read from bytes in memory, fewer than 2 to the power 64, has fewer
-- lines than that.
abbrev pub LinesOfMemoryAreFew : Type 0
LinesOfMemoryAreFew =
    (bytes : List ℕ) (saved : Saved) → length bytes < 2 ^ 64 → IsRightRead bytes (Ok saved)
    → length (lines (content saved)) + 1 < 2 ^ 64
