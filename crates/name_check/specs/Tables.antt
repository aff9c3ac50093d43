-- A table of names: the ring of each (this project's own).
use Rattle.std.specs.Prelude.{◌≡◌, ℕ, List, map, Option, option_map, string_bytes}
use Rattle.name_bindings.specs.Bindings.{Bound, ring_of, AreNamedOnce}
use Rattle.name_check.specs.declared.table.Binding.{Binding}

-- contracts see the name as its bytes
abbrev pub bound_of : Binding → Bound
bound_of b = record { name = string_bytes b.name; before = b.before; floor = b.floor }

abbrev pub bounds_of : List (Option Binding) → List (Option Bound)
bounds_of os = map (λ (o : Option Binding). option_map bound_of o) os

-- the look-up finds the ring of each name, and no two rings have one name
pub record IsTable (os : List (Option Bound)) (look : List ℕ → Option ℕ) : Type 0 where
  pub looks : (x : List ℕ) → look x ≡ ring_of x os
  pub once : AreNamedOnce os
