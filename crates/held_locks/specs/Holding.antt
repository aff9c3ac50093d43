-- Which client holds each lock, and the locks of the clients in chains (this project's own).
use Rattle.std.specs.Prelude.{◌≡◌, ◌≢◌, ℕ, ◌+◌, ◌-◌, ◌%◌, ◌<◌, ◌≤◌, ◌⊎◌, Bool, true, false, ◌==◌, if◌then◌else◌, List, [], ◌∷◌, ◌++◌, length, slice_get, Option, None, Some}
use Rattle.std.specs.List.{Contains}
use Rattle.std.specs.List.Sorted.{IsStrictlySortedBy}
use Rattle.std.specs.Ordering.{nat_cmp}
use Rattle.held_locks.specs.Queues.{stands, is_held_by, client_of}
use Rattle.held_locks.specs.Kept.{LockView, AreKept}

-- how many chains there are
abbrev pub chain_count : ℕ
chain_count = 4096

-- the number is in the list
abbrev pub Has : ℕ → List ℕ → Type 0
Has x [] = ⊥
Has x (y ∷ ys) = (x ≡ y) ⊎ Has x ys

-- no number is in it twice
abbrev pub Differ : List ℕ → Type 0
Differ [] = Unit {0}
Differ (x ∷ xs) = (¬ Has x xs) × Differ xs

-- what comes after a link and what comes before it agree
pub record IsLinked (next previous : List ℕ) : Type 0 where
  pub same : length previous ≡ length next
  pub ahead : (x y : ℕ) → slice_get next x ≡ Some y → slice_get previous y ≡ Some x
  pub behind : (x y : ℕ) → slice_get previous x ≡ Some y → slice_get next y ≡ Some x

-- two links have exchanged what comes after them
pub record IsSpliced (old new : List ℕ) (a b : ℕ) : Type 0 where
  pub first : slice_get new a ≡ slice_get old b
  pub second : slice_get new b ≡ slice_get old a
  pub others : (x : ℕ) → x ≢ a → x ≢ b → slice_get new x ≡ slice_get old x
  pub many : length new ≡ length old

-- From this link on one comes over the links of these locks to an end. A link below the number of
-- ends is an end; that of a lock is its number above them.
abbrev pub IsChain : ℕ → List ℕ → ℕ → List ℕ → Type 0
IsChain ends next at [] = at < ends
IsChain ends next at (i ∷ is) =
    (at ≡ ends + i) × ((z : ℕ) × (slice_get next (ends + i) ≡ Some z) × IsChain ends next z is)

-- the chain of this end, which begins at this link, has each lock that one of its clients holds
pub record IsChainOf (ends : ℕ) (next : List ℕ) (holds : ℕ → ℕ → Type 0) (s at : ℕ) : Type 0 where
  pub locks : List ℕ
  pub chain : IsChain ends next at locks
  pub differ : Differ locks
  pub known : (i c : ℕ) → holds i c → c % ends ≡ s → Has i locks

-- the lock of this number is the client's
abbrev pub IsHeldIn : List (Option ℕ) → ℕ → ℕ → Type 0
IsHeldIn clients i c = slice_get clients i ≡ Some (Some c)

-- the chains have each lock that is held
pub record AreChained (ends : ℕ) (next previous : List ℕ) (clients : List (Option ℕ)) : Type 0
  where
    pub linked : IsLinked next previous
    pub many : length clients ≡ length next - ends
    pub chains : (s at : ℕ) → s < ends → slice_get next s ≡ Some at
        → IsChainOf ends next (IsHeldIn clients) s at

-- whether a lock that this client holds, or nobody, is the client's
abbrev pub is_of : ℕ → Option ℕ → Bool
is_of c None = false
is_of c (Some d) = d == c

-- the locks that were found, and this one if it is the client's
abbrev pub noted : List ℕ → ℕ → Option ℕ → ℕ → List ℕ
noted found i holder c = if is_of c holder then found ++ i ∷ [] else found

-- these are the locks that a client holds
pub record AreFound (clients : List (Option ℕ)) (c : ℕ) (found : List ℕ) : Type 0 where
  pub differ : Differ found
  pub few : length found ≤ length clients
  pub held : (i : ℕ) → Has i found → IsHeldIn clients i c
  pub all : (i : ℕ) → IsHeldIn clients i c → Has i found

-- the clients that hold the locks
pub record AreHolders (vs : List LockView) (clients : List (Option ℕ)) : Type 0 where
  pub many : length clients ≡ length vs
  pub each : (i : ℕ) (v : LockView) → slice_get vs i ≡ Some v
      → slice_get clients i ≡ Some (client_of v.holder)

-- The locks are kept, their holders are known, and there is room to note as many numbers as there
-- are locks, and one more.
pub record AreWhole (vs : List LockView) (entries : List (ℕ × ℕ)) (clients : List (Option ℕ))
    (places : ℕ) : Type 0 where
  pub kept : AreKept vs entries
  pub holders : AreHolders vs clients
  pub room : length vs ≤ places - 1

-- no other lock has changed
pub record IsSameBut (i : ℕ) (old new : List LockView) : Type 0 where
  pub many : length new ≡ length old
  pub others : (j : ℕ) → j ≢ i → slice_get new j ≡ slice_get old j

-- the locks that a client holds, and the one for which it waits
abbrev pub with_awaited : List ℕ → Option ℕ → List ℕ
with_awaited found None = found
with_awaited found (Some i) = found ++ i ∷ []

-- the client holds the lock, or waits for it
abbrev pub IsAt : ℕ → LockView → Type 0
IsAt c v = (is_held_by c v.holder ≡ true) ⊎ (stands c v.queue ≡ true)

-- these are the locks that a client holds or waits for, in rising order
pub record AreLocksOf (c : ℕ) (vs : List LockView) (order : List ℕ) : Type 0 where
  pub rising : IsStrictlySortedBy nat_cmp order
  pub within : (i : ℕ) → Contains order i
      → (v : LockView) × ((slice_get vs i ≡ Some v) × IsAt c v)
  pub all : (i : ℕ) (v : LockView) → slice_get vs i ≡ Some v → IsAt c v → Contains order i
