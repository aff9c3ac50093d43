-- Locks that begin to have names (this project's own).
use Rattle.std.specs.Prelude.{◌≡◌, ℕ, ◌<◌, ◌≤◌, List, length}
use Rattle.held_locks.specs.Kept.{LockView, locks_of}
use Rattle.lock_names.specs.declared.starting.NotBegun.{NotBegun}
use Rattle.lock_names.specs.Names.{total}
use Rattle.lock_names.specs.Promises.{NoneHeld, beginning}
use Rattle.lock_names.specs.Kept.{NamedView, named_of, top_limit}
use Rattle.name_bindings.specs.Bindings.{AreDistinct}
use Rattle.lock_names.specs.declared.starting.NotBegun.TheVariants as not_begun
pub use Rattle.name_bindings.specs.Bindings.{fixed_names, frees}

-- The locks are these, and the state is the machine's beginning.
pub record IsBegun (vs : List LockView) (ns : List (List ℕ)) (s : NamedView) : Type 0 where
  pub locks : s.locks ≡ vs
  pub state : named_of s ≡ beginning ns (locks_of vs)

-- why it cannot
abbrev pub CannotBegin : List LockView → List (List ℕ) → NotBegun → Type 0
CannotBegin vs ns not_begun.Locks = length vs < length ns
CannotBegin vs ns not_begun.Twice = ¬ AreDistinct ns
CannotBegin vs ns not_begun.Held = ¬ NoneHeld (locks_of vs)
CannotBegin vs ns not_begun.Full = top_limit ≤ total (locks_of vs)
CannotBegin vs ns not_begun.Memory = Unit {0}
