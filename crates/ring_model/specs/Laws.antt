-- The laws of settlement, over the definitions of a ring.
use Rattle.std.specs.Prelude.{◌≡◌, ℕ, ◌+◌, ◌-◌, ◌%◌, ◌<◌, ◌≤◌, true, false, List, length, slice_index}
use Rattle.ring_model.specs.Ring.{Ring, IsRing, is_privileged, moved, privileged_count, first_privileged, is_settled, is_absent, first_value_is_prefix, IsPrefix, lead, rest, bound}
use Rattle.ring_model.specs.Closure.{IsClosed, KeepsOthers}
use Rattle.ring_model.specs.Runs.{after_passes, granted_passes, AreBelow, GoesRoundFrom}

-- closure: the move of a privileged machine never raises the number of privileged machines, and
-- takes the mover's privilege
abbrev pub Closure : Type 0
Closure =
    (r : Ring) (i : ℕ) → IsRing r → i < length r.values → is_privileged r.values i ≡ true
    → IsClosed r (moved r i) i

-- beyond the mover's only its right neighbour's privilege may change, also where the mover has
-- none
abbrev pub OthersKeep : Type 0
OthersKeep = (r : Ring) (i : ℕ) → IsRing r → i < length r.values → KeepsOthers r (moved r i) i

-- some machine is always privileged, and the first privileged machine is one
abbrev pub SomePrivileged : Type 0
SomePrivileged =
    (r : Ring) → IsRing r
    → (1 ≤ privileged_count r.values)
    × (first_privileged r.values < length r.values)
    × (is_privileged r.values (first_privileged r.values) ≡ true)

-- descent: a move of an unsettled ring lowers the rest
abbrev pub Descent : Type 0
Descent =
    (r : Ring) (i : ℕ) → IsRing r → i < length r.values → is_privileged r.values i ≡ true
    → is_settled r.values ≡ false → rest (moved r i) < rest r

-- the rest is 0 just where the ring is settled
abbrev pub RestIsZero : Type 0
RestIsZero =
    (r : Ring) → IsRing r
    → (rest r ≡ 0 → is_settled r.values ≡ true) × (is_settled r.values ≡ true → rest r ≡ 0)

-- the rest of every state is at most the bound
abbrev pub Bounded : Type 0
Bounded = (r : Ring) → IsRing r → rest r ≤ bound (length r.values)

-- over every run the rest falls by at least the number of granted passes, down to 0
abbrev pub RunDescent : Type 0
RunDescent = (r : Ring) (choices : List ℕ) → IsRing r → AreBelow (length r.values) choices →
    rest (after_passes r choices) ≤ rest r - length (granted_passes r choices)

-- a run with as many granted passes as the bound settles the ring
abbrev pub RunSettles : Type 0
RunSettles =
    (r : Ring) (choices : List ℕ) → IsRing r → AreBelow (length r.values) choices
    → bound (length r.values) ≤ length (granted_passes r choices)
    → is_settled (after_passes r choices).values ≡ true

-- from a settled state on every state is settled, and the grants begin at the privileged machine
-- and go round
abbrev pub Round : Type 0
Round =
    (r : Ring) (choices : List ℕ) → IsRing r → AreBelow (length r.values) choices
    → is_settled r.values ≡ true
    → (is_settled (after_passes r choices).values ≡ true)
    × GoesRoundFrom (length r.values) (first_privileged r.values) (granted_passes r choices)

-- the test on neighbours says that the value of machine 0 is held only by a prefix
abbrev pub FrontMeans : Type 0
FrontMeans =
    (s : List ℕ) → 1 ≤ length s
    → (first_value_is_prefix s ≡ true → (p : ℕ) × (p < length s) × IsPrefix s p)
    × ((p : ℕ) → IsPrefix s p → first_value_is_prefix s ≡ true)

-- where it is not held only by a prefix, the lead is the least number of steps, from 1, to a value
-- that no other machine has, and is below n
abbrev pub LeadMeans : Type 0
LeadMeans =
    (r : Ring) → IsRing r → first_value_is_prefix r.values ≡ false
    → (1 ≤ lead r)
    × (lead r < length r.values)
    × (is_absent r.values ((slice_index r.values 0 + lead r) % r.k) ≡ true)
    × ((j : ℕ) → 1 ≤ j → j < lead r
    → is_absent r.values ((slice_index r.values 0 + j) % r.k) ≡ false)
