-- Which fault a list of start values has.
use Rattle.std.specs.Prelude.{◌≡◌, ◌≢◌, ℕ, ◌<◌, ◌≤◌, List, length, slice_index}
use Rattle.ring_state.specs.Sizes.{Size}
use Rattle.ring_state.specs.declared.states.StateError.{StateError}
use Rattle.ring_state.specs.declared.states.StateError.TheVariants.{Length, Value, OutOfMemory}

-- the value at i is the first that is not below k
pub record IsFirstOver (k : ℕ) (values : List ℕ) (i : ℕ) : Type 0 where
  pub in_list : i < length values
  pub over : k ≤ slice_index values i
  pub least : (j : ℕ) → j < i → slice_index values j < k

-- each refusal says which fault is the first: the length, then the least value, and out of memory
-- only where there is neither
abbrev pub IsFaultOf : Size → List ℕ → StateError → Type 0
IsFaultOf size values Length = length values ≢ size.n
IsFaultOf size values (Value i) = (length values ≡ size.n) × IsFirstOver size.k values i
IsFaultOf size values OutOfMemory =
    (length values ≡ size.n) × ((i : ℕ) → i < length values → slice_index values i < size.k)
