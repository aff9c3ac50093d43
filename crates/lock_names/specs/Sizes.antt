-- How many rings a pool should have (this project's own).
use Rattle.std.specs.Prelude.{◌≡◌, ◌⊎◌, ℕ, ◌-◌, ◌*◌, ◌^◌, ◌<◌, ◌≤◌, List, slice_get, Option, Some}
use Rattle.name_bindings.specs.Bindings.{Bound}

-- the rings from this one on have no name, and the one before it has one
pub record AreUsedUntil (os : List (Option Bound)) (end : ℕ) : Type 0 where
  pub none : (i : ℕ) (b : Bound) → end ≤ i → slice_get os i ≡ Some (Some b) → ⊥
  pub last : 0 < end → (b : Bound) × (slice_get os (end - 1) ≡ Some (Some b))

-- how many rings a pool has at least
abbrev pub least_pool : ℕ
least_pool = 1024

-- the least power of two, from there on, of which a quarter is left beside these
pub record IsWanted (used size : ℕ) : Type 0 where
  pub power : (k : ℕ) × (size ≡ least_pool * 2 ^ k)
  pub room : 4 * used ≤ 3 * size
  pub least : (size ≡ least_pool) ⊎ (3 * size < 8 * used)

-- there is one such size
abbrev pub WantedIsOne : Type 0
WantedIsOne = (used a b : ℕ) → IsWanted used a → IsWanted used b → a ≡ b
