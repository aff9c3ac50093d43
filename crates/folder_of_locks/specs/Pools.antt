-- Lists of locks with a pool of rings after them, as texts (this project's own). The rings of a
-- pool are of one size, and have no names in a list.
use Rattle.std.specs.Prelude.{◌≡◌, ◌≢◌, ℕ, ◌<◌, ◌^◌, List, [], ◌∷◌, ◌++◌, length, map, slice_get, Option, Some, None, decimal, codes, ◌⊎◌}
use Rattle.std.specs.List.{AllByRecursion}
use Rattle.ring_state.specs.Sizes.{Size, IsSize}
use Rattle.lock_protocol.specs.Names.{IsName}
use Rattle.folder_of_locks.specs.declared.locks.ListError.{ListError}
use Rattle.folder_of_locks.specs.declared.pools.FolderList.{FolderList}
use Rattle.folder_of_locks.specs.Lists.{listed, IsSizeSaid, AreTexts, AreLocks, IsSizeFault, IsLocksFault, file_text}
use Rattle.fresh_rings.specs.Fresh.{Listed}
use Rattle.folder_of_locks.specs.declared.locks.ListError.TheVariants as refused
pub use Rattle.fresh_rings.specs.Fresh.{pool_ring}

-- the fixed locks of a list, and the size of the rings of its pool, if it has one
pub record Pooled : Type 0 where
  pub locks : List Listed
  pub pool : Option Size

-- the content of the program's own type
abbrev pub pooled : FolderList → Pooled
pooled l = record { locks = map listed l.locks.items; pool = l.pool }

-- ---- texts

-- what comes after the star of a pool: nothing, for 2 machines of 2 values; or a size
abbrev pub IsPoolSize : ℕ → List ℕ → ℕ → ℕ → Type 0
IsPoolSize mark text n k = ((text ≡ []) × (n ≡ 2) × (k ≡ 2)) ⊎ IsSizeSaid mark text n k

-- the text of a pool, after its star
pub record IsPoolText (mark : ℕ) (text : List ℕ) (s : Size) : Type 0 where
  pub machines : s.n < 2 ^ 32
  pub values : s.k < 2 ^ 32
  pub sized : IsPoolSize mark text s.n s.k

-- the bytes are the texts of the locks and then that of the pool, each with this end
abbrev pub ArePooledTexts : ℕ → ℕ → List ℕ → List Listed → Option Size → Type 0
ArePooledTexts end mark bytes ls None = AreTexts end mark bytes ls
ArePooledTexts end mark bytes ls (Some s) =
    (front : List ℕ)
    × (text : List ℕ)
    × (bytes ≡ front ++ 42 ∷ (text ++ end ∷ []))
    × AreTexts end mark front ls
    × IsPoolText mark text s

-- ---- lists

-- the fixed locks of a list with a pool: none, or some that may be in one list
abbrev pub AreFixed : List Listed → Type 0
AreFixed ls = (ls ≡ []) ⊎ AreLocks ls

-- these may be a list: there is a lock at least, or a pool, whose size is allowed
abbrev pub ArePooled : List Listed → Option Size → Type 0
ArePooled ls None = AreLocks ls
ArePooled ls (Some s) = AreFixed ls × IsSize s

-- the word is the text of just this list: that of a list of locks, and the pool comes last
abbrev pub IsPooledWord : List ℕ → Pooled → Type 0
IsPooledWord word l =
    ArePooledTexts 44 58 (word ++ 44 ∷ []) l.locks l.pool × ArePooled l.locks l.pool

-- the bytes are those of a file of this list: the pool's line comes last
abbrev pub IsPooledFile : List ℕ → Pooled → Type 0
IsPooledFile bytes l = ArePooledTexts 10 32 bytes l.locks l.pool × ArePooled l.locks l.pool

-- ---- refusals

-- the size of the pool, which comes at this place, is not allowed
abbrev pub IsPoolFault : ℕ → Size → ListError → Type 0
IsPoolFault place s (refused.Size i cause) = (i ≡ place) × IsSizeFault (pool_ring s) cause
IsPoolFault place s _ = ⊥

-- why these are not a list: the locks are none, or the size of the pool is not allowed
abbrev pub IsPooledLocksFault : List Listed → Option Size → ListError → Type 0
IsPooledLocksFault ls None e = IsLocksFault ls e
IsPooledLocksFault ls (Some s) e = IsLocksFault ls e ⊎ IsPoolFault (length ls) s e

-- there is a lock, or a pool
abbrev pub HasOne : List Listed → Option Size → Type 0
HasOne ls None = 0 < length ls
HasOne ls (Some s) = Unit {0}

-- why the bytes are not a list: they are the texts of none, or of this one, which is refused
abbrev pub IsPooledFault : ℕ → ℕ → List ℕ → ListError → Type 0
IsPooledFault end mark bytes refused.Syntax =
    (ls : List Listed) (pool : Option Size) → HasOne ls pool
    → ¬ ArePooledTexts end mark bytes ls pool
IsPooledFault end mark bytes refused.OutOfMemory = Unit {0}
IsPooledFault end mark bytes e =
    (ls : List Listed)
    × (pool : Option Size)
    × ArePooledTexts end mark bytes ls pool
    × IsPooledLocksFault ls pool e

abbrev pub IsPooledWordFault : List ℕ → ListError → Type 0
IsPooledWordFault word e = IsPooledFault 44 58 (word ++ 44 ∷ []) e

abbrev pub IsPooledFileFault : List ℕ → ListError → Type 0
IsPooledFileFault bytes e = IsPooledFault 10 32 bytes e

-- ---- lists that continue others

-- a list begins with these locks; if they have a pool, it has no others and the same pool
abbrev pub BeginsWith : List Listed → Option Size → Pooled → Type 0
BeginsWith ls None new = (more : List Listed) × (new.locks ≡ ls ++ more)
BeginsWith ls (Some s) new = (new.locks ≡ ls) × (new.pool ≡ Some s)

-- a list continues another: after a pool nothing can be added
abbrev pub ContinuesPooled : Pooled → Pooled → Type 0
ContinuesPooled old new = BeginsWith old.locks old.pool new

-- the other pool comes at another place, or is another, or is none
abbrev pub HasOtherPool : List Listed → Option Size → Pooled → Type 0
HasOtherPool ls None new = ⊥
HasOtherPool ls (Some s) new = (length new.locks ≢ length ls) ⊎ (new.pool ≢ Some s)

-- they differ at this place: that of a lock, or after all locks that of the pool
abbrev pub IsOtherAt : Pooled → Pooled → ℕ → Type 0
IsOtherAt old new i =
    ((i < length old.locks) × (slice_get new.locks i ≢ slice_get old.locks i))
    ⊎ ((i ≡ length old.locks) × HasOtherPool old.locks old.pool new)

-- ---- the file that is written

-- the line of a pool: a star, and both numbers
abbrev pub pool_line : Option Size → List ℕ
pool_line None = []
pool_line (Some s) =
    codes "* " ++ (decimal s.n ++ (codes " " ++ (decimal s.k ++ codes "\n")))

abbrev pub pooled_text : Pooled → List ℕ
pooled_text l = file_text l.locks ++ pool_line l.pool

-- ---- a law: a list that is written is read

abbrev pub WrittenListsAreRead : Type 0
WrittenListsAreRead =
    (l : Pooled) → ArePooled l.locks l.pool
    → AllByRecursion (λ (i : Listed). IsName i.name) l.locks → IsPooledFile (pooled_text l) l
