-- A folder, and the names in it.
use Rattle.std.specs.Prelude.{◌≡◌, ℕ, List, ◌∷◌, ◌++◌, ◌==◌, Bool, true, false, map, string_bytes, Option, None, Some, ⊤}
use Rattle.std.specs.Borrow.{Bor}
use Rattle.std.specs.List.{list_any, AllByRecursion}
use Rattle.std.specs.Str.{bytes_eq}
use Rattle.disks.specs.Held.{Held, is_folder, is_there, IsOneFile}
use Rattle.disks.specs.declared.disk.FolderEntry.{FolderEntry}

-- the name of what has this name in the folder: a slash is between the two
abbrev pub path_in : List ℕ → List ℕ → List ℕ
path_in folder name = folder ++ 47 ∷ name

-- what has this name, or would have it, has a name in the folder too, where it is known where names
-- lead
abbrev pub LeadsInto : Option Held → List ℕ → List ℕ → Type 0
LeadsInto None folder name = ⊤
LeadsInto (Some held) folder name = (other : List ℕ) × IsOneFile held (path_in folder other) name

-- whether a name has a slash
abbrev pub has_slash : List ℕ → Bool
has_slash name = list_any (λ b. b == 47) name

-- what would have this name has no name in the folder that nothing has yet, where it is known where
-- names lead
abbrev pub LeadsToNoNew : Option Held → List ℕ → List ℕ → Type 0
LeadsToNoNew None folder name = ⊤
LeadsToNoNew (Some held) folder name = (other : List ℕ) → has_slash other ≡ false
    → is_there held (path_in folder other) ≡ false → IsOneFile held (path_in folder other) name → ⊥

-- whether a name is among these
abbrev pub is_among : List (List ℕ) → List ℕ → Bool
is_among names name = list_any (λ n. bytes_eq n name) names

-- the name in the folder that what has this name has there, if it lies there
abbrev pub IsNameIn : List ℕ → List ℕ → Option (Bor (List ℕ)) → Type 0
IsNameIn path folder None =
    (n : List ℕ) → has_slash n ≡ false → bytes_eq path (path_in folder n) ≡ false
IsNameIn path folder (Some n) = (has_slash n.now ≡ false) × (path ≡ path_in folder n.now)

-- the names that these entries have
abbrev pub names_of : List FolderEntry → List (List ℕ)
names_of entries = map (λ e. string_bytes e.name) entries

-- These names, which have no slash, are just those that lead to a file or a folder in the folder.
pub record ListsNames (held : Held) (folder : List ℕ) (names : List (List ℕ)) : Type 0 where
  pub plain : AllByRecursion (λ n. has_slash n ≡ false) names
  pub each : (name : List ℕ) → has_slash name ≡ false
      → is_among names name ≡ is_there held (path_in folder name)

-- of each entry it is said whether a regular file has the name
abbrev pub SaysKinds : Held → List ℕ → List FolderEntry → Type 0
SaysKinds held folder entries =
    AllByRecursion (λ e. e.is_regular ≡ held.regular (path_in folder (string_bytes e.name))) entries

-- A folder has this name, and these entries are just those in it, each of its kind, where that is
-- known.
abbrev pub Lists : Option Held → List ℕ → List FolderEntry → Type 0
Lists None folder entries = ⊤
Lists (Some held) folder entries =
    (is_folder held folder ≡ true)
    × ListsNames held folder (names_of entries)
    × SaysKinds held folder entries
