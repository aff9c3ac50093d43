-- How `locks` with a list that has a pool begins to serve (this project's own).
use Rattle.std.specs.Prelude.{◌≡◌, ◌≢◌, ℕ, ◌-◌, ◌||◌, ◌⊎◌, min, Bool, false, List, [], ◌++◌, Option, None, Some, is_some}
use Rattle.disks.specs.Held.{Held}
use Rattle.line_service.specs.Segments.{Moment, HasBegun, IsBegun}
use Rattle.line_service.specs.Service.{ServesSegments}
use Rattle.line_replica.specs.Running.{at_place}
use Rattle.ring_state.specs.Sizes.{Size}
use Rattle.held_locks.specs.Kept.{lock_limit}
use Rattle.lock_names.specs.Kept.{NamedView}
use Rattle.folder_of_locks.specs.NameFolders.{NamePlace}
use Rattle.lock_journal.specs.declared.stages.Stage.TheVariants as stage
use Rattle.lock_journal.specs.Segments.{segment_text}
use Rattle.lock_journal.specs.Stages.{stage_after}
use Rattle.name_service.specs.declared.service.NameService.{NameService}
use Rattle.name_service.specs.declared.service.NameTerms.{NameTerms}
use Rattle.name_service.specs.First.{IsNameStart}
use Rattle.name_service.specs.NamesText.{names_text}
pub use Rattle.name_service.specs.Life.{NamesService, names_answering, names_by_segments}
use Rattle.name_service.specs.Serving.{is_name_past}
use Rattle.tool_parts.specs.declared.requests.LocksWords.{LocksWords}
use Rattle.lock_commands.specs.Locks.{folder_of, most_lines, terms_of}

-- ---- how it begins

-- how many rings the pool may have: no more than there is room for beside the fixed locks
abbrev pub most_rings : LocksWords → ℕ → ℕ
most_rings words fixed = min words.most_names (lock_limit - fixed)

abbrev pub name_terms_of : LocksWords → NamedView → Size → NameTerms
name_terms_of words names size = record {
  lines = terms_of words;
  most = most_rings words names.fixed;
  size = size;
}

-- the service inside begins with these names, whose pool has rings of this size; if it is due, its
-- segment is to end first
pub record NamesBeginInside (words : LocksWords) (due : Bool) (names : NamedView) (size : Size)
    (s : NameService) : Type 0 where
  pub segment : IsNameStart (most_lines words) names s.segment
  pub terms : s.terms ≡ name_terms_of words names size
  pub stage_is : s.stage
      ≡ stage_after stage.Open (due || is_name_past (name_terms_of words names size) s.segment)

-- the service begins with these names, with no key, before the first place
pub record NamesBeginWith (words : LocksWords) (due : Bool) (names : NamedView) (size : Size)
    (s : NamesService) : Type 0 where
  pub inside : NamesBeginInside words due names size s.inner.numbered.inner
  pub keys : s.inner.numbered.keys ≡ []
  pub running : s.inner.running ≡ at_place 0 []
  pub whole : s.inner.lost ≡ false

-- ---- the first segment

-- the text with which these names begin a segment
abbrev pub names_begin : ℕ → List ℕ → NamedView → List ℕ
names_begin number behind names = segment_text number behind names.locks ++ names_text names

-- Of the lines that the last file has, if there is one: none are put there again, as there is no file,
-- or it has this text and nothing more; or these are, and they are more.
abbrev pub IsPutAgain : List ℕ → Option (List ℕ) → Option (List ℕ) → Type 0
IsPutAgain text front None = (front ≡ None) ⊎ (front ≡ Some text)
IsPutAgain text front (Some lines) = (front ≡ Some lines) × (lines ≢ text)

-- an input without a byte is served: so a segment that is due is ended
abbrev pub ServesNothing : List ℕ → Moment NamesService → Moment NamesService → Type 0
ServesNothing folder a b =
    (rest : Option (List ℕ))
    × (after : Option (List ℕ))
    × ServesSegments names_answering names_by_segments folder a b (Some []) rest (Some []) after

-- The file of the segment of this number was put there with these lines. Before any other line is
-- served it ends and the next one begins: an input without a byte is served, after which no segment
-- is to end.
pub record HasBegunAfter (folder : List ℕ) (number : ℕ) (lines : List ℕ) (service : NamesService)
    (files : Option Held) (first : Moment NamesService) : Type 0 where
  pub mid : Moment NamesService
  pub service_is : mid.service ≡ service
  pub number_is : mid.number ≡ number
  pub put : IsBegun folder number lines files mid.files mid.journal
  pub ended : ServesNothing folder mid first
  pub open_is : names_by_segments.is_due first.service ≡ false

-- The first segment whose lines are served has begun: the one after that with these lines; or, if
-- there are none, that of this number, with the text of the service.
abbrev pub HasBegunFrom : List ℕ → ℕ → List ℕ → Option (List ℕ) → NamesService → Option Held
    → Moment NamesService → Type 0
HasBegunFrom folder number behind None service files first =
    HasBegun names_by_segments folder service number behind files first
HasBegunFrom folder number behind (Some lines) service files first =
    HasBegunAfter folder number lines service files first

-- It began so where the names start.
pub record NamesHaveStarted (words : LocksWords) (start : NamePlace) (files : Option Held)
    (first : Moment NamesService) : Type 0 where
  pub lines : Option (List ℕ)
  pub again : IsPutAgain (names_begin start.number start.behind start.names) start.front lines
  pub service : NamesService
  pub begins : NamesBeginWith words (is_some lines) start.names start.size service
  pub begun : HasBegunFrom (folder_of words) start.number start.behind lines service files first
