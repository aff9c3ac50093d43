-- Tables of names (this project's own).
use Rattle.std.specs.Prelude.{◌≡◌, ℕ, ◌≤◌, List, length, Some}
use Rattle.std.specs.HashMap.{HashMap, get_by}
use Rattle.std.specs.Str.{bytes_eq}
use Rattle.held_locks.specs.Kept.{lock_limit}
use Rattle.lock_protocol.specs.declared.names.NameFault.{NameFault}
use Rattle.lock_protocol.specs.declared.names.NameFault.TheVariants as fault
use Rattle.lock_protocol.specs.Names.{IsName, Names, lock_named}

-- the map, whose keys have these bytes, has the number of each name
abbrev pub HasNumbers : {K S : Type 0} → HashMap K ℕ S → (K → List ℕ) → Names → Type 0
HasNumbers m bytes names =
    (name : List ℕ) → get_by (λ k. bytes_eq name (bytes k)) m ≡ lock_named names name

-- why a name is not added to others
abbrev pub IsNotAdded : Names → List ℕ → NameFault → Type 0
IsNotAdded names name fault.NoName = ¬ IsName name
IsNotAdded names name fault.Twice = (lock : ℕ) × (lock_named names name ≡ Some lock)
IsNotAdded names name fault.Many = lock_limit ≤ length names
IsNotAdded names name fault.OutOfMemory = Unit {0}
