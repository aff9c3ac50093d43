-- The ring of machines with K values each (E. W. Dijkstra, "Self-stabilizing systems in spite of
-- distributed control", CACM 17(11), 1974, the solution with K-state machines; also S. Dolev,
-- "Self-Stabilization", 2000, chapter 2). Definitions in which K has no part take only the list s
-- of the values; n is the length of that list.
use Rattle.std.specs.Prelude.{◌≡◌, ℕ, zero, suc, ◌+◌, ◌-◌, ◌*◌, ◌/◌, ◌%◌, ◌<◌, ◌≤◌, Bool, cond, not, ◌||◌, ◌==◌, List, length, slice_index, slice_set}
use Rattle.ring_model.specs.Numbers.{every_below, sum_below, count_below, least}

-- a ring: the number K, and the values of its machines
pub record Ring : Type 0 where
  pub k : ℕ
  pub values : List ℕ

-- the ring with this K and these values
abbrev pub ring_with : ℕ → List ℕ → Ring
ring_with k values = record { k = k; values = values }

-- at least two machines, at least as many values as machines, each value below K (Dijkstra 1974; he
-- numbers the machines 0 to N and asks K > N)
pub record IsRing (r : Ring) : Type 0 where
  pub two : 2 ≤ length r.values
  pub enough : length r.values ≤ r.k
  pub below : (i : ℕ) → i < length r.values → slice_index r.values i < r.k

-- machine 0 is privileged where the last machine has its value, each other where its left neighbour
-- has not (Dijkstra 1974)
abbrev pub is_privileged : List ℕ → ℕ → Bool
is_privileged s zero = slice_index s (length s - 1) == slice_index s 0
is_privileged s (suc i) = not (slice_index s i == slice_index s (suc i))

-- the value of machine i after its move: machine 0 steps on modulo K, each other copies its left
-- neighbour (Dijkstra 1974)
abbrev pub moved_value : Ring → ℕ → ℕ
moved_value r zero = (slice_index r.values 0 + 1) % r.k
moved_value r (suc i) = slice_index r.values i

-- the ring with v written into machine i
abbrev pub written : Ring → ℕ → ℕ → Ring
written r i v = record { k = r.k; values = slice_set r.values i v }

-- the ring after machine i has moved
abbrev pub moved : Ring → ℕ → Ring
moved r i = written r i (moved_value r i)

-- the machine to the right of machine i
abbrev pub right_neighbour : List ℕ → ℕ → ℕ
right_neighbour s i = (i + 1) % length s

-- how many machines are privileged
abbrev pub privileged_count : List ℕ → ℕ
privileged_count s = count_below (is_privileged s) (length s)

-- the least privileged machine
abbrev pub first_privileged : List ℕ → ℕ
first_privileged s = least (is_privileged s) 0 (length s)

-- exactly one machine is privileged (Dijkstra's legitimate states, without his demands on which can
-- be reached from which)
abbrev pub is_settled : List ℕ → Bool
is_settled s = privileged_count s == 1

-- The potential, which is this project's own.

-- the part of machine i in the weight: n - i where it is privileged and not machine 0
abbrev pub weight_at : List ℕ → ℕ → ℕ
weight_at s zero = 0
weight_at s (suc i) = cond (is_privileged s (suc i)) (length s - suc i) 0

-- the weight: each privileged machine but machine 0 counts with its distance to the end of the ring
abbrev pub weight : List ℕ → ℕ
weight s = sum_below (weight_at s) (length s)

-- no machine but machine 0 has the value v
abbrev pub is_absent : List ℕ → ℕ → Bool
is_absent s v = every_below (λ i. not (slice_index s (suc i) == v)) (length s - 1)

-- the machines that hold the value of machine 0 are a prefix of the ring: none holds it whose left
-- neighbour does not
abbrev pub first_value_is_prefix : List ℕ → Bool
first_value_is_prefix s =
    every_below
    (λ i. (slice_index s i == slice_index s 0) || not (slice_index s (suc i) == slice_index s 0))
    (length s - 1)

-- the machines that have the value of machine 0 are exactly 0 to p
abbrev pub IsPrefix : List ℕ → ℕ → Type 0
IsPrefix s p =
    (i : ℕ) → i < length s
    → (slice_index s i ≡ slice_index s 0 → i ≤ p) × (i ≤ p → slice_index s i ≡ slice_index s 0)

-- the lead: 0 where the value of machine 0 is held only by a prefix, else how far machine 0 has to
-- step until no other machine holds its value
abbrev pub lead : Ring → ℕ
lead r =
    cond (first_value_is_prefix r.values) 0
    (least (λ j. is_absent r.values ((slice_index r.values 0 + j) % r.k)) 1 r.k)

-- the rest: at most this many moves are left before the ring is settled
abbrev pub rest : Ring → ℕ
rest r = cond (is_settled r.values) 0 (weight r.values + length r.values * lead r)

-- no rest of a ring of n machines is more than this
abbrev pub bound : ℕ → ℕ
bound n = 3 * n * (n - 1) / 2
