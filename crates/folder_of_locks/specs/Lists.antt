-- Lists of locks, as texts (this project's own).
use Rattle.std.specs.Prelude.{◌≡◌, ℕ, ◌<◌, ◌≤◌, ◌^◌, true, List, [], ◌∷◌, ◌++◌, length, slice_get, Some, decimal, codes, ◌⊎◌, map, take, All}
use Rattle.std.specs.List.{flat_map, list_any, IsDistinct}
use Rattle.std.specs.Str.{bytes_eq}
use Rattle.ring_state.specs.Sizes.{Size, IsSize}
use Rattle.ring_state.specs.declared.sizes.ParamsError.{ParamsError}
use Rattle.ring_model.specs.Limits.{machine_limit, value_limit}
use Rattle.held_locks.specs.Kept.{lock_limit}
use Rattle.lock_protocol.specs.Names.{IsName, Names}
use Rattle.folder_of_locks.specs.declared.locks.ListedLock.{ListedLock}
use Rattle.folder_of_locks.specs.declared.locks.ListError.{ListError}
use Rattle.ring_state.specs.declared.sizes.ParamsError.TheVariants as params
use Rattle.folder_of_locks.specs.declared.locks.ListError.TheVariants as refused
pub use Rattle.fresh_rings.specs.Fresh.{Listed}

-- the content of the program's own type
abbrev pub listed : ListedLock → Listed
listed l = record { name = l.name.now; n = l.n; k = l.k }

-- ---- texts

-- A size, where the parts have this mark before them: a number, for as many machines and values; or
-- both numbers.
abbrev pub IsSizeSaid : ℕ → List ℕ → ℕ → ℕ → Type 0
IsSizeSaid mark text n k =
    ((text ≡ mark ∷ decimal n) × (k ≡ n)) ⊎ (text ≡ mark ∷ (decimal n ++ mark ∷ decimal k))

-- what comes after a name: nothing, for 8 machines of 8 values; or a size
abbrev pub IsSizeText : ℕ → List ℕ → ℕ → ℕ → Type 0
IsSizeText mark text n k = ((text ≡ []) × (n ≡ 8) × (k ≡ 8)) ⊎ IsSizeSaid mark text n k

-- the text of a lock: its name, and its size
pub record IsLockText (mark : ℕ) (text : List ℕ) (l : Listed) : Type 0 where
  pub name : IsName l.name
  pub machines : l.n < 2 ^ 32
  pub values : l.k < 2 ^ 32
  pub size : List ℕ
  pub spelled : text ≡ l.name ++ size
  pub sized : IsSizeText mark size l.n l.k

-- the bytes are the texts of these locks, each with this end
abbrev pub AreTexts : ℕ → ℕ → List ℕ → List Listed → Type 0
AreTexts end mark bytes [] = bytes ≡ []
AreTexts end mark bytes (l ∷ ls) =
    (text : List ℕ)
    × (rest : List ℕ)
    × (bytes ≡ text ++ end ∷ rest)
    × IsLockText mark text l
    × AreTexts end mark rest ls

-- ---- locks

abbrev pub size_of : Listed → Size
size_of l = record { n = l.n; k = l.k }

abbrev pub names_of : List Listed → Names
names_of ls = map (λ (l : Listed). l.name) ls

-- There is one at least, and not too many; each has a size that is allowed; no two have one name.
pub record AreLocks (ls : List Listed) : Type 0 where
  pub some : 0 < length ls
  pub few : length ls ≤ lock_limit
  pub sizes : All IsSize (map size_of ls)
  pub apart : IsDistinct bytes_eq (names_of ls)

-- The word is the text of just these locks: a comma is between two, and a colon between the
-- parts of one.
abbrev pub IsLockList : List ℕ → List Listed → Type 0
IsLockList word ls = AreTexts 44 58 (word ++ 44 ∷ []) ls × AreLocks ls

-- The bytes are those of a file of these locks: a line for each, with a space between its parts.
abbrev pub IsLockFile : List ℕ → List Listed → Type 0
IsLockFile bytes ls = AreTexts 10 32 bytes ls × AreLocks ls

-- ---- refusals

-- the first fault of a size
abbrev pub IsSizeFault : Listed → ParamsError → Type 0
IsSizeFault l params.TooFew = l.n < 2
IsSizeFault l params.TooMany = machine_limit < l.n
IsSizeFault l params.FewValues = (2 ≤ l.n) × (l.n ≤ machine_limit) × (l.k < l.n)
IsSizeFault l params.ManyValues = (2 ≤ l.n) × (l.n ≤ machine_limit) × (value_limit < l.k)

-- why these are not locks of one list
abbrev pub IsLocksFault : List Listed → ListError → Type 0
IsLocksFault ls refused.Many = lock_limit < length ls
IsLocksFault ls (refused.Size i cause) =
    (l : Listed) × (slice_get ls i ≡ Some l) × IsSizeFault l cause
IsLocksFault ls (refused.Twice j) =
    (l : Listed)
    × (slice_get ls j ≡ Some l)
    × (list_any (bytes_eq l.name) (names_of (take j ls)) ≡ true)
IsLocksFault ls refused.OutOfMemory = Unit {0}
IsLocksFault ls refused.Syntax = ⊥

-- why the bytes are not a list: they are the texts of no locks, or of these, and those are refused
abbrev pub IsTextsFault : ℕ → ℕ → List ℕ → ListError → Type 0
IsTextsFault end mark bytes refused.Syntax =
    (ls : List Listed) → 0 < length ls → ¬ AreTexts end mark bytes ls
IsTextsFault end mark bytes refused.OutOfMemory = Unit {0}
IsTextsFault end mark bytes e =
    (ls : List Listed) × AreTexts end mark bytes ls × IsLocksFault ls e

abbrev pub IsWordFault : List ℕ → ListError → Type 0
IsWordFault word e = IsTextsFault 44 58 (word ++ 44 ∷ []) e

abbrev pub IsFileFault : List ℕ → ListError → Type 0
IsFileFault bytes e = IsTextsFault 10 32 bytes e

-- ---- the file that is written

-- the line of a lock: its name and both numbers
abbrev pub lock_line : Listed → List ℕ
lock_line l =
    l.name ++ (codes " " ++ (decimal l.n ++ (codes " " ++ (decimal l.k ++ codes "\n"))))

abbrev pub file_text : List Listed → List ℕ
file_text ls = flat_map lock_line ls
