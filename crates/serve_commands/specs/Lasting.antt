-- What a loss of power, or an end of the process, leaves of the journal of served rings (this
-- project's own).
use Rattle.std.specs.Prelude.{◌≡◌, ℕ, ◌⊎◌, List, Option, None, Some, IfSome, ⊤}
use Rattle.disks.specs.Held.{Held, LeadsToFolder, Replaces}
use Rattle.disks.specs.Lasting.{HasFront}
use Rattle.saved_history.specs.declared.saved.Saved.{Saved}
use Rattle.journal.specs.Spelling.{journal_head}
use Rattle.ring_service.specs.declared.permits.Permits.{Permits}
use Rattle.ring_service.specs.Permits.{terms_of}
use Rattle.ring_service.specs.Recovered.{AnsweredCallsAreRecovered}
use Rattle.ring_service.specs.Saved.{content_of}
use Rattle.ring_service.specs.Standings.{Standing}
use Rattle.ring_service.specs.Starting.{AreResumed}
use Rattle.ring_service.specs.declared.chain_segments.ChainRules.{ChainRules}
use Rattle.ring_service.specs.Rules.{folder_of}
use Rattle.ring_service.specs.Services.{ServiceView}
use Rattle.ring_service.specs.ChainRecovered.{AnsweredCallsLast, CallsOfEachSegmentLast}
use Rattle.line_service.specs.Segments.{Moment}
use Rattle.tool_parts.specs.declared.requests.ServeWords.{ServeWords}
use Rattle.tool_parts.specs.Locking.{IsLocked}
use Rattle.tool_parts.specs.Worlds.{World, IsUnserved}
use Rattle.serve_commands.specs.Served.{history_of, journal_of, permits_of, IsGivenHistory, IsNoted}
use Rattle.serve_commands.specs.ServedFolder.{Place, HasBegunAt, StandsIn, AreRules}

-- ---- in a folder of segments

-- From a place on: no line was served; or the first segment has begun, and this is left of the
-- folder, with the notes of all lines that were delivered, and the call of each is in the rings
-- that are recovered of it. Where no line may save, each segment that has ended since is left whole.
abbrev pub RunLasts : ChainRules → Place → Option Held → Option (List ℕ) → Option (List ℕ)
    → Option (List ℕ) → Option (List ℕ) → Option Held → Type 0
RunLasts s start files was is old new left =
    IsUnserved was is old new
    ⊎ ((first : Moment ServiceView)
    × (end : ServiceView)
    × HasBegunAt s start files first
    × AnsweredCallsLast (folder_of s) first end was is old new left
    × (s.permits.saves ≡ None
    → CallsOfEachSegmentLast (folder_of s) first end was is old new left))

-- In a folder: no line was served; or it was locked, the rings began at their place in it, and what
-- was delivered lasts.
abbrev pub FolderLasts : ServeWords → List ℕ → Option Saved → Option Held → Option (List ℕ)
    → Option (List ℕ) → Option (List ℕ) → Option (List ℕ) → Option Held → Type 0
FolderLasts words folder saved before was is old new left =
    IsUnserved was is old new
    ⊎ ((rules : ChainRules)
    × (there : Option Held)
    × (start : Place)
    × AreRules rules words folder
    × IsLocked before there folder
    × StandsIn there folder saved start
    × RunLasts rules start there was is old new left)

-- ---- in a file

-- Some of the lines were delivered, or all of them, from where the rings began and the journal's
-- file had these bytes. Where it is known what is left, the file begins with them
-- and with the notes of each delivered line after them, and the rings that are recovered of it have
-- its call.
pub record JournalLasts (permits : Permits) (name : List ℕ) (start : List Standing)
    (begun : Option Held) (first : List ℕ) (was is old new : Option (List ℕ))
    (left : Option Held) : Type 0 where
  pub end : List Standing
  pub ended : Option Held
  pub last : List ℕ
  pub served : AnsweredCallsAreRecovered (terms_of (Some name) permits) start end begun ended was is
      (record { journal = Some first; out = old }) (record { journal = Some last; out = new })
  pub left_is : IfSome left (λ held. HasFront held name (Some last))

-- No line was served, or of the lines that were what was delivered lasts.
abbrev pub BegunLasts : Permits → List ℕ → List Standing → Option Held → List ℕ → Option (List ℕ)
    → Option (List ℕ) → Option (List ℕ) → Option (List ℕ) → Option Held → Type 0
BegunLasts permits name start begun first was is old new left =
    IsUnserved was is old new ⊎ JournalLasts permits name start begun first was is old new left

-- In a file: no line was served; or the rings began where the history or the journal has them, the
-- journal was begun anew with them, and what was delivered lasts.
abbrev pub FileLasts : Permits → List ℕ → Option Saved → Option Held → Option (List ℕ)
    → Option (List ℕ) → Option (List ℕ) → Option (List ℕ) → Option Held → Type 0
FileLasts permits name saved before was is old new left =
    IsUnserved was is old new
    ⊎ ((from : Saved)
    × (start : List Standing)
    × (begun : Option Held)
    × IsNoted before name saved from
    × AreResumed start from.rings.items
    × Replaces before begun name (Some (journal_head (content_of start)))
    × JournalLasts permits name start begun (journal_head (content_of start)) was is old new left)

-- ---- either

-- what was delivered lasts, in a folder, if the journal's name was one's, or in a file
abbrev pub KeptLasts : ServeWords → List ℕ → Option Saved → Option Held → Option (List ℕ)
    → Option (List ℕ) → Option (List ℕ) → Option (List ℕ) → Option Held → Type 0
KeptLasts words name saved before was is old new left =
    (LeadsToFolder before name × FolderLasts words name saved before was is old new left)
    ⊎ FileLasts (permits_of words) name saved before was is old new left

-- without a journal nothing lasts
abbrev pub CallsLast : ServeWords → Option (List ℕ) → Option Saved → Option Held
    → Option (List ℕ) → Option (List ℕ) → Option (List ℕ) → Option (List ℕ) → Option Held → Type 0
CallsLast words None saved before was is old new left = ⊤
CallsLast words (Some name) saved before was is old new left =
    KeptLasts words name saved before was is old new left

-- Whenever the power fails or the process ends after the call: no line was served; or the journal,
-- if one is kept, is left with the notes of all lines whose answers the output got, from where the
-- rings began.
abbrev pub ToldCallsLast : ServeWords → World → World → Option Held → Type 0
ToldCallsLast words was is left =
    IsUnserved was.input is.input was.out is.out
    ⊎ ((saved : Option Saved)
    × IsGivenHistory was.files (history_of words) saved
    × CallsLast words (journal_of words) saved was.files was.input is.input was.out is.out left)
