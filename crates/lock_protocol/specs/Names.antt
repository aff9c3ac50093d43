-- The names of locks, which a list of locks and a line have alike (this project's own).
use Rattle.std.specs.Prelude.{◌≡◌, ℕ, suc, ◌<◌, ◌≤◌, ◌==◌, ◌||◌, Bool, true, List, [], ◌∷◌, ◌++◌, length, slice_index, slice_get, Option, None, Some, if◌then◌else◌, unwrap_or}
use Rattle.std.specs.Option.{option_map}
use Rattle.std.specs.List.{AllByRecursion, IsDistinct}
use Rattle.std.specs.Char.{is_ascii_alphanumeric}
use Rattle.std.specs.Str.{bytes_eq}

-- the most bytes of a name
abbrev pub most_name : ℕ
most_name = 128

-- a letter or a digit of ASCII, or one of `.`, `_`, `-` and `/`
abbrev pub is_name_byte : ℕ → Bool
is_name_byte b =
    is_ascii_alphanumeric b || ((b == 46) || ((b == 95) || ((b == 45) || (b == 47))))

-- a name has some of them
pub record IsName (name : List ℕ) : Type 0 where
  pub some : 0 < length name
  pub most : length name ≤ most_name
  pub each : (i : ℕ) → i < length name → is_name_byte (slice_index name i) ≡ true

-- a name and a space
abbrev pub name_spaced : List ℕ → List ℕ
name_spaced name = name ++ 32 ∷ []

-- a name and the LF that ends the line
abbrev pub name_ended : List ℕ → List ℕ
name_ended name = name ++ 10 ∷ []

-- ---- the names of the locks of a list, by their numbers, which begin with 0

abbrev pub Names : Type 0
Names = List (List ℕ)

-- each is a name, and no two are the same
pub record AreNames (names : Names) : Type 0 where
  pub each : AllByRecursion IsName names
  pub apart : IsDistinct bytes_eq names

-- the number of the lock of this name, if there is one
abbrev pub lock_named : Names → List ℕ → Option ℕ
lock_named [] name = None
lock_named (first ∷ names) name =
    if bytes_eq name first then Some 0 else option_map suc (lock_named names name)

-- the name of the lock of this number; nothing, if there is none
abbrev pub name_of : Names → ℕ → List ℕ
name_of names lock = unwrap_or (slice_get names lock) []
