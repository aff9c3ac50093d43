-- What a run of `locks` with a pool reported, as answers of one machine with names (this project's
-- own).
use Rattle.std.specs.Prelude.{◌≡◌, false, ◌⊎◌, List, ℕ, Option}
use Rattle.disks.specs.Held.{Held}
use Rattle.ring_model.specs.History.{State}
use Rattle.folder_of_locks.specs.Holders.{Hold}
use Rattle.folder_of_locks.specs.NameFolders.{NamePlace, AreNamesStarted}
use Rattle.line_service.specs.Segments.{Moment}
use Rattle.line_service.specs.Service.{all_said}
use Rattle.line_service.specs.Notes.{ToldLinesAreNoted}
use Rattle.lock_names.specs.Names.{NamedInput}
use Rattle.lock_names.specs.Promises.{IsNamed}
use Rattle.lock_names.specs.Kept.{named_of}
use Rattle.name_service.specs.Life.{machine_in, lines_in, HasGrown, IsNamedLife}
use Rattle.tool_parts.specs.declared.requests.LocksWords.{LocksWords}
use Rattle.tool_parts.specs.Locking.{IsLocked}
use Rattle.tool_parts.specs.Worlds.{World, IsUnserved}
use Rattle.lock_commands.specs.HoldersFile.{holders_word, AreHoldersOf}
use Rattle.lock_commands.specs.Locks.{folder_of, list_of}
use Rattle.lock_commands.specs.NamesStarted.{NamesService, names_answering, names_by_segments, NamesHaveStarted}

-- A run from where the names start, wherever it ended. Of the lines that were reported, in parts, the
-- output has a prefix of what was said, and nothing else. If no answer was lost up to the last of
-- them, one machine with names took them all: it has the names that start, and the rings that the
-- pool got before the first line. So what `specs/Promises.antt` and `specs/Alike.antt` of `lock_names`
-- say of every list of inputs is so of what was reported.
pub record AreNamesLived (words : LocksWords) (start : NamePlace) (files : Option Held)
    (was is old new : Option (List ℕ)) : Type 0 where
  pub first : Moment NamesService
  pub started : NamesHaveStarted words start files first
  pub right : IsNamed (named_of start.names)
  pub rings : List (State ℕ)
  pub grown : HasGrown (named_of start.names) rings (machine_in first.service)
  pub end : NamesService
  pub journal : Option (List ℕ)
  pub noted : ToldLinesAreNoted names_answering names_by_segments (folder_of words) first end was is
      old new journal
  pub life : noted.mid.service.inner.lost ≡ false
      → (inputs : List NamedInput)
      × IsNamedLife first.service noted.mid.service (lines_in noted.parts) (all_said noted.parts)
      inputs

-- no line was read and nothing was reported; or so it was
abbrev pub NamesRunLives : LocksWords → NamePlace → Option Held → Option (List ℕ)
    → Option (List ℕ) → Option (List ℕ) → Option (List ℕ) → Type 0
NamesRunLives words start files was is old new =
    IsUnserved was is old new ⊎ AreNamesLived words start files was is old new

-- In a folder, with these holders: nothing was reported; or the folder was locked, the names
-- started, and from there it was so.
abbrev pub NamesFolderLives : LocksWords → List Hold → Option Held → Option (List ℕ)
    → Option (List ℕ) → Option (List ℕ) → Option (List ℕ) → Type 0
NamesFolderLives words holders before was is old new =
    IsUnserved was is old new
    ⊎ ((there : Option Held)
    × (listed : Option Held)
    × (start : NamePlace)
    × IsLocked before there (folder_of words)
    × AreNamesStarted (folder_of words) (list_of words) words.most_names holders there listed start
    × NamesRunLives words start listed was is old new)

-- Wherever the call ended: nothing was reported; or what was reported are answers of one machine with
-- names, from where the names started with the holders of the file.
abbrev pub ToldNamesLive : LocksWords → World → World → Type 0
ToldNamesLive words was is =
    IsUnserved was.input is.input was.out is.out
    ⊎ ((holders : List Hold)
    × AreHoldersOf was.files (holders_word words) holders
    × NamesFolderLives words holders was.files was.input is.input was.out is.out)
