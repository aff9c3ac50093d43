-- The steps of reading a list of locks with a pool.
use Rattle.std.specs.Prelude.{◌≡◌, ℕ, List, Some, ◌⊎◌}
use Rattle.ring_state.specs.Sizes.{Size}
use Rattle.folder_of_locks.specs.declared.locks.ListError.{ListError}
use Rattle.folder_of_locks.specs.declared.locks.ListError.TheVariants as refused
use Rattle.folder_of_locks.specs.Lists.{Listed, AreTexts}
use Rattle.folder_of_locks.specs.Pools.{Pooled, IsPoolText, ArePooled, IsPooledLocksFault}

-- the list has a pool, and these texts come before and after its star
pub record IsAround (end mark : ℕ) (front text : List ℕ) (l : Pooled) : Type 0 where
  pub size : Size
  pub pool : l.pool ≡ Some size
  pub locks_text : AreTexts end mark front l.locks
  pub pool_text : IsPoolText mark text size
  pub right : ArePooled l.locks (Some size)

-- why there is no such list: one of the texts is none, or what they name is refused
abbrev pub IsNotAround : ℕ → ℕ → List ℕ → List ℕ → ListError → Type 0
IsNotAround end mark front text refused.Syntax =
    ((ls : List Listed) → ¬ AreTexts end mark front ls)
    ⊎ ((s : Size) → ¬ IsPoolText mark text s)
IsNotAround end mark front text refused.OutOfMemory = Unit {0}
IsNotAround end mark front text e =
    (ls : List Listed)
    × (s : Size)
    × AreTexts end mark front ls
    × IsPoolText mark text s
    × IsPooledLocksFault ls (Some s) e
