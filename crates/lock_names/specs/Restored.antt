-- Locks that get back the names that they had (this project's own).
use Rattle.std.specs.Prelude.{◌≡◌, ◌≢◌, ◌⊎◌, ℕ, ◌+◌, ◌<◌, ◌≤◌, true, List, ◌++◌, drop, length, slice_get, take, Option, Some, None, is_some}
use Rattle.held_locks.specs.declared.answers.Holder.{Holder}
use Rattle.held_locks.specs.Queues.{Lock}
use Rattle.held_locks.specs.Kept.{LockView, locks_of}
use Rattle.lock_names.specs.declared.restoring.NotRestored.{NotRestored}
use Rattle.lock_names.specs.declared.restoring.NotRestored.TheVariants as not_restored
use Rattle.lock_names.specs.Names.{Bound, Named, NamedInput, Again, token_in, total, step_named, named_after}
use Rattle.lock_names.specs.Promises.{IsNamed, AreAllowed, beginning}
use Rattle.name_bindings.specs.Bindings.{fixed_names, AreNamedOnce}
use Rattle.lock_names.specs.Kept.{NamedView, named_of, top_limit}

-- the state of these locks: the first ones are fixed, with these names; the others are the pool,
-- and have the names of the second list
abbrev pub restored : List Lock → List (List ℕ) → List (Option Bound) → ℕ → Named
restored ls ns os top = record {
  locks = ls;
  names = fixed_names ns ++ os;
  fixed = length ns;
  top = top;
}

-- The locks are these, and the state is the restored one, which is right. All grants of the locks
-- were counted, and there may be more.
pub record IsRestored (vs : List LockView) (ns : List (List ℕ)) (os : List (Option Bound)) (top : ℕ)
    (s : NamedView) : Type 0 where
  pub locks : s.locks ≡ vs
  pub state : named_of s ≡ restored (locks_of vs) ns os top
  pub named : IsNamed (restored (locks_of vs) ns os top)
  pub counted : total (locks_of vs) ≤ top
  pub few : top < top_limit

-- how a ring that has a name is bound wrong
abbrev pub IsWrongBound : ℕ → Lock → Bound → NotRestored → Type 0
IsWrongBound top l b not_restored.Before = l.ring.grants < b.before
IsWrongBound top l b not_restored.Token = top < token_in b l.ring.grants
IsWrongBound top l b not_restored.Hold =
    (h : Holder)
    × (l.holder ≡ Some h)
    × ((h.token ≤ b.before) ⊎ (l.ring.grants < h.token))
IsWrongBound top l b _ = ⊥

-- a ring that has a name is
pub record HasWrongBound (top : ℕ) (l : Lock) (o : Option Bound) (why : NotRestored) : Type 0 where
  pub bound : Bound
  pub is : o ≡ Some bound
  pub wrong : IsWrongBound top l bound why

-- how a ring is named wrong: it is one of the pool that is held and has no name, or has one and is
-- not held; or it is bound wrong
abbrev pub IsWrongName : ℕ → ℕ → ℕ → Lock → Option Bound → NotRestored → Type 0
IsWrongName fixed top i l o not_restored.Unnamed = (o ≡ None) × (fixed ≤ i) × (is_some l.holder ≡ true)
IsWrongName fixed top i l o not_restored.Free = (is_some o ≡ true) × (fixed ≤ i) × (l.holder ≡ None)
IsWrongName fixed top i l o why = HasWrongBound top l o why

-- one of the rings is
pub record HasWrongName (s : Named) (why : NotRestored) : Type 0 where
  pub ring : ℕ
  pub lock : Lock
  pub name : Option Bound
  pub there : slice_get s.locks ring ≡ Some lock
  pub named : slice_get s.names ring ≡ Some name
  pub wrong : IsWrongName s.fixed s.top ring lock name why

-- why it cannot
abbrev pub CannotRestore : List LockView → List (List ℕ) → List (Option Bound) → ℕ → NotRestored
    → Type 0
CannotRestore vs ns os top not_restored.Locks = length vs ≢ length ns + length os
CannotRestore vs ns os top not_restored.Full = top_limit ≤ top
CannotRestore vs ns os top not_restored.Top = top < total (locks_of vs)
CannotRestore vs ns os top not_restored.Twice = ¬ AreNamedOnce (fixed_names ns ++ os)
CannotRestore vs ns os top not_restored.Memory = Unit {0}
CannotRestore vs ns os top why = HasWrongName (restored (locks_of vs) ns os top) why

-- so what is right is refused only for lack of memory
abbrev pub RightIsRestored : Type 0
RightIsRestored =
    (vs : List LockView) (ns : List (List ℕ)) (os : List (Option Bound)) (top : ℕ)
    (why : NotRestored) → IsNamed (restored (locks_of vs) ns os top) → total (locks_of vs) ≤ top
    → top < top_limit → CannotRestore vs ns os top why → why ≡ not_restored.Memory

-- ---- the law

-- the first rings have these names for ever, and each grant of the rings was counted
pub record IsOfFixed (ns : List (List ℕ)) (s : Named) : Type 0 where
  pub many : s.fixed ≡ length ns
  pub first : take (length ns) s.names ≡ fixed_names ns
  pub counted : total s.locks ≤ s.top

-- What is kept of a state is the names of the fixed rings, those of the pool, the number of all
-- grants, and the locks as a restart finds them: so nothing else of it is needed, and it is right.
pub record ComesBack (ns : List (List ℕ)) (s : Named) : Type 0 where
  pub state : (step_named s Again).named
      ≡ restored (step_named s Again).named.locks ns (drop s.fixed s.names) s.top
  pub right : IsNamed (step_named s Again).named
  pub counted : total (step_named s Again).named.locks ≤ s.top

-- so does the state after any inputs
abbrev pub NamesComeBack : Type 0
NamesComeBack =
    (ns : List (List ℕ)) (s : Named) (is : List NamedInput) → IsNamed s → IsOfFixed ns s
    → AreAllowed s is → ComesBack ns (named_after s is)

-- the first rings have these names in a beginning, and in what came back
abbrev pub FixedBegin : Type 0
FixedBegin =
    (ns : List (List ℕ)) (ls : List Lock) → length ns ≤ length ls → IsOfFixed ns (beginning ns ls)

abbrev pub FixedComeBack : Type 0
FixedComeBack =
    (ns : List (List ℕ)) (ls : List Lock) (os : List (Option Bound)) (top : ℕ) → total ls ≤ top
    → IsOfFixed ns (restored ls ns os top)
