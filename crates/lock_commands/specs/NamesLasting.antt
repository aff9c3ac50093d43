-- What a loss of power, or an end of the process, leaves of a folder's names (this project's own).
use Rattle.std.specs.Prelude.{◌≡◌, ℕ, ◌⊎◌, Bool, true, List, Option, IsSome}
use Rattle.disks.specs.Held.{Held}
use Rattle.folder_of_locks.specs.Holders.{Hold}
use Rattle.folder_of_locks.specs.NameFolders.{NamePlace, AreNamesStarted}
use Rattle.disks.specs.Lasting.{outlives}
use Rattle.line_service.specs.declared.segments.OpenSegment.{OpenSegment}
use Rattle.line_service.specs.Segments.{Moment, AllLastsIn}
use Rattle.line_service.specs.Lasting.{EachSegmentLasts}
use Rattle.tool_parts.specs.declared.requests.LocksWords.{LocksWords}
use Rattle.tool_parts.specs.Locking.{IsLocked}
use Rattle.tool_parts.specs.Worlds.{World, IsUnserved}
use Rattle.lock_commands.specs.HoldersFile.{holders_word, AreHoldersOf}
use Rattle.lock_commands.specs.Locks.{folder_of, list_of}
use Rattle.lock_commands.specs.NamesStarted.{NamesService, names_answering, names_by_segments, NamesHaveStarted}

-- Where files outlive it and their content was known before: it is known still, and all of this
-- segment lasts.
abbrev pub IsWholeSince : {V : Type 0} → Bool → Bool → Option Held → Option Held
    → (V → Option (List ℕ)) → (V → Option (List ℕ)) → OpenSegment V → Type 0
IsWholeSince keeps_written synced was is contents lasting segment =
    outlives keeps_written synced ≡ true → IsSome was
    → IsSome is × AllLastsIn contents lasting segment

-- From where the names start: no line was served; or the first segment whose lines are served has
-- begun, and this is left of the folder, with the notes of all lines that were delivered: in each
-- segment that has ended since, which is left whole, and in the last one.
abbrev pub NamesRunLasts : LocksWords → NamePlace → Option Held → Option (List ℕ)
    → Option (List ℕ) → Option (List ℕ) → Option (List ℕ) → Option Held → Type 0
NamesRunLasts words start files was is old new left =
    IsUnserved was is old new
    ⊎ ((first : Moment NamesService)
    × (end : NamesService)
    × NamesHaveStarted words start files first
    × EachSegmentLasts names_answering names_by_segments (folder_of words) first end was is old new
    left)

-- In a folder, with these holders: no line was served; or the folder was locked, the names started,
-- and what was delivered lasts.
abbrev pub NamesFolderLasts : LocksWords → List Hold → Option Held → Option (List ℕ)
    → Option (List ℕ) → Option (List ℕ) → Option (List ℕ) → Option Held → Type 0
NamesFolderLasts words holders before was is old new left =
    IsUnserved was is old new
    ⊎ ((there : Option Held)
    × (listed : Option Held)
    × (start : NamePlace)
    × IsLocked before there (folder_of words)
    × AreNamesStarted (folder_of words) (list_of words) words.most_names holders there listed start
    × NamesRunLasts words start listed was is old new left)

-- Whenever the power fails or the process ends after the call: no line was served; or the folder is
-- left with the notes of all lines whose answers the output got, from where the names started with
-- the holders of the file.
abbrev pub ToldNamesLast : LocksWords → World → World → Option Held → Type 0
ToldNamesLast words was is left =
    IsUnserved was.input is.input was.out is.out
    ⊎ ((holders : List Hold)
    × AreHoldersOf was.files (holders_word words) holders
    × NamesFolderLasts words holders was.files was.input is.input was.out is.out left)
