-- A table of names: the ring of each, and the rings that have none (this project's own).
use Rattle.std.specs.Prelude.{◌≡◌, ℕ, suc, ◌+◌, ◌≤◌, List, [], ◌∷◌, map, length, Option, Some, None, option_map, string_bytes}
use Rattle.std.specs.List.{sum_by}
use Rattle.std.specs.BinaryHeap.{IsHeap}
use Rattle.std.specs.Ordering.{nat_cmp}
use Rattle.core.specs.declared.cmp.Reverse.{Reverse}
use Rattle.lock_names.specs.declared.table.Binding.{Binding}
use Rattle.name_bindings.specs.Bindings.{Bound, ring_of, AreNamedOnce}

-- contracts see the name as its bytes
abbrev pub bound_of : Binding → Bound
bound_of b = record { name = string_bytes b.name; before = b.before; floor = b.floor }

abbrev pub bounds_of : List (Option Binding) → List (Option Bound)
bounds_of os = map (λ (o : Option Binding). option_map bound_of o) os

-- the rings of a list
abbrev pub numbers : List (Reverse ℕ) → List ℕ
numbers rs = map (λ (r : Reverse ℕ). r.0) rs

-- the sum of what each ring without a name weighs, from the ring with this number on
abbrev pub free_sum : (ℕ → ℕ) → ℕ → List (Option Bound) → ℕ
free_sum f at [] = 0
free_sum f at (None ∷ os) = f at + free_sum f (suc at) os
free_sum f at (Some b ∷ os) = free_sum f (suc at) os

-- The look-up finds the ring of each name, and the list has each free ring once, in any order: what
-- its elements weigh, however they are weighed, is what the free rings weigh.
pub record IsTable (os : List (Option Bound)) (look : List ℕ → Option ℕ) (listed : List ℕ) : Type 0
  where
    pub looks : (x : List ℕ) → look x ≡ ring_of x os
    pub free : (f : ℕ → ℕ) → sum_by f listed ≡ free_sum f 0 os
    pub once : AreNamedOnce os

-- Such a table, whose free rings are a heap, with room for every ring.
pub record IsKeptTable (os : List (Option Bound)) (look : List ℕ → Option ℕ)
    (heap : List (Reverse ℕ)) (room : ℕ) : Type 0
  where
    pub table : IsTable os look (numbers heap)
    pub order : IsHeap (λ (x y : Reverse ℕ). nat_cmp y.0 x.0) heap
    pub holds : length os ≤ room
