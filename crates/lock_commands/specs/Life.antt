-- What a run of `locks` reported, as part of a life of locks (this project's own).
use Rattle.std.specs.Prelude.{◌≡◌, false, ◌⊎◌, List, [], ◌++◌, ℕ, Option}
use Rattle.disks.specs.Held.{Held}
use Rattle.folder_of_locks.specs.Holders.{Hold}
use Rattle.folder_of_locks.specs.Folders.{Place, AreStarted}
use Rattle.line_service.specs.Segments.{Moment, IsPut}
use Rattle.line_service.specs.Service.{all_said}
use Rattle.line_service.specs.Notes.{ToldLinesAreNoted}
use Rattle.lock_life.specs.Runs.{Service, answering, by_segments, inside, lines_in, IsInStages, moment_after}
use Rattle.tool_parts.specs.declared.requests.LocksWords.{LocksWords}
use Rattle.tool_parts.specs.Locking.{IsLocked}
use Rattle.tool_parts.specs.Worlds.{World, IsUnserved}
use Rattle.lock_commands.specs.HoldersFile.{holders_word, AreHoldersOf}
use Rattle.lock_commands.specs.Locks.{folder_of, list_of, HasStarted}

-- A run from where the locks start, wherever it ended: of the lines that were reported, in parts,
-- the output has a prefix of what was said, and nothing else. If no answer was lost up to the last
-- of them, they are stages of a life of locks, which begins with the locks that start, by their
-- names: a `Run` of
-- `specs/OneLife.antt` of `lock_life`, once it is known what was left of it; also where the run ended
-- when the file of the next segment had been put there.
pub record IsLived (words : LocksWords) (start : Place) (files : Option Held)
    (was is old new : Option (List ℕ)) : Type 0 where
  pub first : Moment Service
  pub started : HasStarted words start files first
  pub locks : (inside first.service).segment.locks ≡ start.locks
  pub names : (inside first.service).segment.names ≡ start.names
  pub fits : by_segments.HasText first.service first.number start.behind
  pub end : Service
  pub journal : Option (List ℕ)
  pub noted : ToldLinesAreNoted answering by_segments (folder_of words) first end was is old new
      journal
  pub stages : noted.mid.service.inner.lost ≡ false
      → IsInStages first noted.mid start.behind (lines_in noted.parts) (all_said noted.parts)
      (noted.more ++ noted.back)
  pub put : noted.mid.service.inner.lost ≡ false → (next : Service) (is : Option Held)
      → (put : IsPut by_segments (folder_of words) noted.mid next is)
      → IsInStages first (moment_after put) start.behind (lines_in noted.parts)
      (all_said noted.parts) []

-- no line was read and nothing was reported; or so it was
abbrev pub RunLives : LocksWords → Place → Option Held → Option (List ℕ) → Option (List ℕ)
    → Option (List ℕ) → Option (List ℕ) → Type 0
RunLives words start files was is old new =
    IsUnserved was is old new ⊎ IsLived words start files was is old new

-- In a folder, with these holders: nothing was reported; or the folder was locked, the locks
-- started, and from there it was so.
abbrev pub FolderLives : LocksWords → List Hold → Option Held → Option (List ℕ)
    → Option (List ℕ) → Option (List ℕ) → Option (List ℕ) → Type 0
FolderLives words holders before was is old new =
    IsUnserved was is old new
    ⊎ ((there : Option Held)
    × (listed : Option Held)
    × (start : Place)
    × IsLocked before there (folder_of words)
    × AreStarted (folder_of words) (list_of words) holders there listed start
    × RunLives words start listed was is old new)

-- Wherever the call ended: nothing was reported; or what was reported is part of a life of locks,
-- from where the locks started with the holders of the file.
abbrev pub ToldLocksLive : LocksWords → World → World → Type 0
ToldLocksLive words was is =
    IsUnserved was.input is.input was.out is.out
    ⊎ ((holders : List Hold)
    × AreHoldersOf was.files (holders_word words) holders
    × FolderLives words holders was.files was.input is.input was.out is.out)
