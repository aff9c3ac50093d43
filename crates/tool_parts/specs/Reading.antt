-- The results of reading up to a limit.
use Rattle.std.specs.Prelude.{◌≡◌, ℕ, ◌+◌, ◌≤◌, List, length, Option, Bool, codes}
use Rattle.std.specs.Str.{bytes_eq}
use Rattle.std.specs.Io.KnownBytes.{Consumes, IsAtEnd}

-- how many bytes of a file are read at most
abbrev pub most_bytes : ℕ
most_bytes = 1073741824

-- The bytes are all that a reader gave, from what it had left before to its end, and no more than
-- the limit.
pub record IsAllOf (limit : ℕ) (old new : Option (List ℕ)) (bytes : List ℕ) : Type 0 where
  pub within : length bytes ≤ limit
  pub given : Consumes old new bytes
  pub end : IsAtEnd new

-- whether a word is the dash, which means a standard stream instead of a file's name
abbrev pub names_stream : List ℕ → Bool
names_stream word = bytes_eq word (codes "-")

-- it gave no more than n bytes
abbrev pub IsWithin : ℕ → Option (List ℕ) → Option (List ℕ) → Type 0
IsWithin limit old new = (bytes : List ℕ) × (length bytes ≤ limit) × Consumes old new bytes

-- it gave one byte more than n
abbrev pub IsOver : ℕ → Option (List ℕ) → Option (List ℕ) → Type 0
IsOver limit old new = (bytes : List ℕ) × (length bytes ≡ limit + 1) × Consumes old new bytes
