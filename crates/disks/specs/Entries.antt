-- Files and folders in memory: the last entry with a name is what has that name.
use Rattle.std.specs.Prelude.{ℕ, List, [], ◌∷◌, Option, None, Some, cond, not, true, string_bytes}
use Rattle.std.specs.Borrow.{Bor}
use Rattle.std.specs.List.{filter}
use Rattle.std.specs.Str.{bytes_eq}
use Rattle.disks.specs.Held.{Held, Thing, Nothing, Folder, File, is_a_file}
use Rattle.disks.specs.declared.memory.Stored.{Stored}
use Rattle.disks.specs.declared.memory.Stored.TheVariants as stored
use Rattle.disks.specs.declared.memory.StoredEntry.{StoredEntry}

-- what was put at a name
abbrev pub thing_of : Stored → Thing
thing_of (stored.File bytes) = File bytes.items
thing_of stored.Folder = Folder

-- what was put there, if anything was
abbrev pub thing_in : Option (Bor Stored) → Thing
thing_in None = Nothing
thing_in (Some s) = thing_of s.now

-- what the last of these entries with this name has, or what was found before them
abbrev pub found : Thing → List StoredEntry → List ℕ → Thing
found before [] name = before
found before (e ∷ es) name =
    found (cond (bytes_eq (string_bytes e.name) name) (thing_of e.stored) before) es name

-- The files and folders by these entries: each name leads to a place of its own. Nobody else has files
-- in memory, so each of them is locked.
abbrev pub held_of : List StoredEntry → Held
held_of entries = record {
  place = λ name. name;
  at = found Nothing entries;
  locked = λ place. true;
  regular = λ name. is_a_file (found Nothing entries name);
}

-- these entries except those with this name
abbrev pub without : List ℕ → List StoredEntry → List StoredEntry
without name entries = filter (λ e. not (bytes_eq (string_bytes e.name) name)) entries
