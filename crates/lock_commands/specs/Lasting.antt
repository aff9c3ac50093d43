-- What a loss of power, or an end of the process, leaves of a folder's locks (this project's own).
use Rattle.std.specs.Prelude.{ℕ, ◌⊎◌, List, Option}
use Rattle.disks.specs.Held.{Held}
use Rattle.folder_of_locks.specs.Holders.{Hold}
use Rattle.folder_of_locks.specs.Folders.{Place, AreStarted}
use Rattle.line_service.specs.Segments.{Moment}
use Rattle.line_service.specs.Lasting.{EachSegmentLasts}
use Rattle.tool_parts.specs.declared.requests.LocksWords.{LocksWords}
use Rattle.tool_parts.specs.Locking.{IsLocked}
use Rattle.tool_parts.specs.Worlds.{World, IsUnserved}
use Rattle.lock_life.specs.Runs.{Service, answering, by_segments}
use Rattle.lock_commands.specs.HoldersFile.{holders_word, AreHoldersOf}
use Rattle.lock_commands.specs.Locks.{folder_of, list_of, HasStarted}

-- From where the locks start: no line was served; or their first segment has begun, and this is
-- left of the folder, with the notes of all lines that were delivered: in each segment that has
-- ended since, which is left whole, and in the last one.
abbrev pub RunLasts : LocksWords → Place → Option Held → Option (List ℕ) → Option (List ℕ)
    → Option (List ℕ) → Option (List ℕ) → Option Held → Type 0
RunLasts words start files was is old new left =
    IsUnserved was is old new
    ⊎ ((first : Moment Service)
    × (end : Service)
    × HasStarted words start files first
    × EachSegmentLasts answering by_segments (folder_of words) first end was is old new left)

-- In a folder, with these holders: no line was served; or the folder was locked, the locks started,
-- and what was delivered lasts.
abbrev pub FolderLasts : LocksWords → List Hold → Option Held → Option (List ℕ)
    → Option (List ℕ) → Option (List ℕ) → Option (List ℕ) → Option Held → Type 0
FolderLasts words holders before was is old new left =
    IsUnserved was is old new
    ⊎ ((there : Option Held)
    × (listed : Option Held)
    × (start : Place)
    × IsLocked before there (folder_of words)
    × AreStarted (folder_of words) (list_of words) holders there listed start
    × RunLasts words start listed was is old new left)

-- Whenever the power fails or the process ends after the call: no line was served; or the folder is
-- left with the notes of all lines whose answers the output got, from where the locks started with
-- the holders of the file.
abbrev pub ToldLocksLast : LocksWords → World → World → Option Held → Type 0
ToldLocksLast words was is left =
    IsUnserved was.input is.input was.out is.out
    ⊎ ((holders : List Hold)
    × AreHoldersOf was.files (holders_word words) holders
    × FolderLasts words holders was.files was.input is.input was.out is.out left)
