-- How soon a ring is settled, at the latest: where the first privileged machine passes each time, in
-- complete rounds, and by the longest repair (this project's own).
use Rattle.std.specs.Prelude.{◌≡◌, ℕ, ◌+◌, ◌-◌, ◌*◌, ◌/◌, ◌≤◌, Bool, true, false, cond, not, ◌&&◌, ◌==◌, List, [], ◌∷◌, length, take, slice_index}
use Rattle.ring_model.specs.Numbers.{every_below, count_below}
use Rattle.ring_model.specs.Ring.{Ring, IsRing, is_privileged, moved, first_privileged, is_settled}
use Rattle.ring_model.specs.Runs.{passed, after_passes, granted_passes, AreBelow}
use Rattle.ring_model.specs.History.{Works, State, IsLegal}
use Rattle.ring_model.specs.Surveys.{calm}
use Rattle.ring_model.specs.HistoryLaws.{values_at}
use Rattle.ring_model.specs.Progress.{HasRounds}
use Rattle.ring_model.specs.declared.events.Event.{Event}

-- each choice is the first privileged machine of the ring that it finds
abbrev pub AreFirst : Ring → List ℕ → Type 0
AreFirst r [] = Unit {0}
AreFirst r (i ∷ choices) = (i ≡ first_privileged r.values) × AreFirst (passed r i) choices

-- some machine to the right of machine i, up to the last one, is privileged
abbrev pub has_privileged_after : List ℕ → ℕ → Bool
has_privileged_after s i =
    not (every_below (λ d. not (is_privileged s (i + 1 + d))) (length s - 1 - i))

-- machine i is still to copy the value of machine 0: it has another one, and some machine to its
-- right is privileged
abbrev pub has_to_copy : List ℕ → ℕ → Bool
has_to_copy s i = not (slice_index s i == slice_index s 0) && has_privileged_after s i

-- how many are
abbrev pub copies_left : List ℕ → ℕ
copies_left s = count_below (has_to_copy s) (length s)

-- how many passes are left where the first privileged machine passes each time: none in a settled
-- ring, else one of machine 0 where it is privileged, and then one of each machine that has to copy
abbrev pub passes_left : Ring → ℕ
passes_left r =
    cond (is_settled r.values) 0
    (cond (is_privileged r.values 0) (1 + copies_left (moved r 0).values) (copies_left r.values))

-- where the first privileged machine passes each time, every pass is granted, and each lowers what is
-- left by 1, down to 0
abbrev pub FirstPassesCount : Type 0
FirstPassesCount =
    (r : Ring) (choices : List ℕ) → IsRing r → AreFirst r choices
    → (granted_passes r choices ≡ choices)
    × (passes_left (after_passes r choices) ≡ passes_left r - length choices)

-- none is left exactly where the ring is settled, and never more than n - 1 are left
abbrev pub PassesLeftMeans : Type 0
PassesLeftMeans =
    (r : Ring) → IsRing r
    → (passes_left r ≡ 0 → is_settled r.values ≡ true)
    × (is_settled r.values ≡ true → passes_left r ≡ 0)
    × (passes_left r ≤ length r.values - 1)

-- so n - 1 passes, each by the first privileged machine, settle every ring
abbrev pub FirstPassesSettle : Type 0
FirstPassesSettle =
    (r : Ring) (choices : List ℕ) → IsRing r → AreFirst r choices
    → length r.values - 1 ≤ length choices → is_settled (after_passes r choices).values ≡ true

-- fewer do not: for each n of at least 3 and each K some ring has n - 1 left
abbrev pub FirstPassesAreSharp : Type 0
FirstPassesAreSharp =
    (n k : ℕ) → 3 ≤ n → n ≤ k
    → (r : Ring) × IsRing r × (r.k ≡ k) × (length r.values ≡ n) × (passes_left r ≡ n - 1)

-- 2n - 3 complete rounds settle every ring (`FewRoundsSettle`), and fewer do not: for each n of at
-- least 4 and each K some ring is not settled after some run with 2n - 4
abbrev pub FewRoundsAreSharp : Type 0
FewRoundsAreSharp =
    (n k : ℕ) → 4 ≤ n → n ≤ k
    → (r : Ring)
    × (choices : List ℕ)
    × IsRing r
    × (r.k ≡ k)
    × (length r.values ≡ n)
    × AreBelow n choices
    × HasRounds n (2 * n - 4) choices
    × (is_settled (after_passes r choices).values ≡ false)

-- how many granted passes the longest repair of n machines has, for n of at least 4; no repair of two
-- or three machines has more than this
abbrev pub longest_repair : ℕ → ℕ
longest_repair n = (n - 2) * (3 * n + 1) / 2

-- as many granted passes settle every ring
abbrev pub LongRunSettles : Type 0
LongRunSettles =
    (r : Ring) (choices : List ℕ) → IsRing r → AreBelow (length r.values) choices
    → longest_repair (length r.values) ≤ length (granted_passes r choices)
    → is_settled (after_passes r choices).values ≡ true

-- and fewer do not: for each n of at least 4 and each K some ring is not settled after some run with
-- one granted pass less
abbrev pub LongRunsAreSharp : Type 0
LongRunsAreSharp =
    (n k : ℕ) → 4 ≤ n → n ≤ k
    → (r : Ring)
    × (choices : List ℕ)
    × IsRing r
    × (r.k ≡ k)
    × (length r.values ≡ n)
    × AreBelow n choices
    × (length (granted_passes r choices) + 1 ≡ longest_repair n)
    × (is_settled (after_passes r choices).values ≡ false)

-- a calm of this many has the ring settled, at every place of a legal history
abbrev pub LongCalmSettles : Type 0 → Type 0
LongCalmSettles C =
    (w : Works C) (a : State C) (h : List Event) → IsRing a.ring → IsLegal w a h → (q : ℕ)
    → q ≤ length h → longest_repair (length a.ring.values) ≤ calm (take q h)
    → is_settled (values_at w a h q) ≡ true
