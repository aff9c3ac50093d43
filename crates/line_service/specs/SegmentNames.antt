-- The names in a folder of segments (this project's own).
use Rattle.std.specs.Prelude.{◌≡◌, ℕ, ◌-◌, ◌^◌, ◌<◌, List, ◌++◌, length, replicate, codes, ◌⊎◌}
use Rattle.std.specs.Fmt.{decimal}
use Rattle.std.specs.List.{AllByRecursion}
use Rattle.text_lines.specs.Reading.{is_digit}
use Rattle.std.specs.Prelude.{IsTrue}
use Rattle.disks.specs.Folders.{path_in}

-- a number with zeros before it, if it has less than ten digits
abbrev pub padded : ℕ → List ℕ
padded n = replicate (10 - length (decimal n)) 48 ++ decimal n

-- the name that the segment of this number has in its folder
abbrev pub segment_name : ℕ → List ℕ
segment_name n = padded n ++ codes ".ring"

-- the name of its file
abbrev pub segment_file : List ℕ → ℕ → List ℕ
segment_file folder n = path_in folder (segment_name n)

-- a number that a segment can have
abbrev pub IsNumber : ℕ → Type 0
IsNumber n = (0 < n) × (n < 2 ^ 64)

-- the name is that of the segment of this number
pub record IsSegmentName (name : List ℕ) (n : ℕ) : Type 0 where
  pub number : IsNumber n
  pub spelled : name ≡ segment_name n

-- the name of a file that is being made: it ends with `.part`, or with that and digits
pub record IsPartName (name : List ℕ) : Type 0 where
  pub front : List ℕ
  pub digits : List ℕ
  pub all : AllByRecursion (λ d. IsTrue (is_digit d)) digits
  pub spelled : name ≡ front ++ (codes ".part" ++ digits)

-- the name of the file that a folder of locks has: their list
abbrev pub list_name : List ℕ
list_name = codes "locks"

-- a name that may be beside the segments: that of the lock of the folder, of the list of locks, or
-- of a file that is being made
abbrev pub IsOtherName : List ℕ → Type 0
IsOtherName name = (name ≡ codes "lock") ⊎ ((name ≡ list_name) ⊎ IsPartName name)
