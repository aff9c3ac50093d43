-- Which machine a daemon chooses next, and when a ring is repaired.
use Rattle.std.specs.Prelude.{ℕ, zero, suc, ◌+◌, ◌-◌, ◌%◌, Bool, true, false, cond, nat_lt, nat_le, ◌&&◌, List, [], ◌∷◌, length}
use Rattle.ring_model.specs.Numbers.{count_below, least}
use Rattle.ring_model.specs.Ring.{Ring, is_privileged, privileged_count, first_privileged, is_settled, moved, rest}
use Rattle.ring_model.specs.Runs.{passed, granted_passes}
use Rattle.drawn_groups.specs.Groups.{group_choices}
use Rattle.ring_repairs.specs.Draws.{draw}
use Rattle.ring_repairs.specs.declared.daemons.Daemon.{Daemon}
use Rattle.ring_repairs.specs.declared.daemons.Daemon.TheVariants.{First, Last, Random, Turn, Slow, Groups}
use Rattle.ring_repairs.specs.declared.daemons.Memory.{Memory}

-- the greatest number below n that passes, 0 if none does
abbrev pub greatest_below : (ℕ → Bool) → ℕ → ℕ
greatest_below p zero = 0
greatest_below p (suc n) = cond (p n) n (greatest_below p n)

-- the number that passes and has j below it that pass, of the `turns` ones from `from` on; 0 if none is so
abbrev pub nth : (ℕ → Bool) → ℕ → ℕ → ℕ → ℕ
nth p from zero j = 0
nth p from (suc turns) zero = cond (p from) from (nth p (suc from) turns zero)
nth p from (suc turns) (suc j) =
    cond (p from) (nth p (suc from) turns j) (nth p (suc from) turns (suc j))

-- the greatest privileged machine
abbrev pub last_privileged : List ℕ → ℕ
last_privileged s = greatest_below (is_privileged s) (length s)

-- the privileged machine with j privileged machines below it
abbrev pub privileged_at : List ℕ → ℕ → ℕ
privileged_at s j = nth (is_privileged s) 0 (length s) j

-- the least privileged machine from machine i on, or the length where none is
abbrev pub privileged_from : List ℕ → ℕ → ℕ
privileged_from s i = least (is_privileged s) i (length s - i)

-- the first privileged machine that is met from machine i on, around the ring
abbrev pub next_privileged : List ℕ → ℕ → ℕ
next_privileged s i =
    cond (nat_lt (privileged_from s i) (length s)) (privileged_from s i) (first_privileged s)

-- how many machines are asked from machine i on, around a ring of n, until machine j is
abbrev pub asked_until : ℕ → ℕ → ℕ → ℕ
asked_until n i j = cond (nat_le i j) (j + 1 - i) (n + j + 1 - i)

-- the rest after the move of machine i
unfoldable pub rest_after : Ring → ℕ → ℕ
rest_after r i = rest (moved r i)

-- machine j, where it is privileged and its move leaves a greater rest than machine i's, and else machine i
abbrev pub slower : Ring → ℕ → ℕ → ℕ
slower r i j =
    cond (is_privileged r.values j && nat_lt (rest_after r i) (rest_after r j)) j i

-- of the privileged machines below n, and the first of all, the least whose move leaves the greatest rest
abbrev pub slowest_below : Ring → ℕ → ℕ
slowest_below r zero = first_privileged r.values
slowest_below r (suc n) = slower r (slowest_below r n) n

-- the privileged machine whose move lowers the rest least; the least of these
abbrev pub slowest : Ring → ℕ
slowest r = slowest_below r (length r.values)

-- the machine that a daemon chooses, where the ring is r and its memory m; `Groups` chooses groups
-- (`daemon_choices`), and of single machines the first
unfoldable pub choice : Daemon → Memory → Ring → ℕ
choice First m r = first_privileged r.values
choice Last m r = last_privileged r.values
choice Random m r = privileged_at r.values (draw (privileged_count r.values) m.words).0
choice Turn m r = next_privileged r.values (m.asked % length r.values)
choice Slow m r = slowest r
choice Groups m r = first_privileged r.values

abbrev pub memory_with : Memory → ℕ → Memory
memory_with m more = record { words = m.words; asked = m.asked + more }

-- its memory after that choice
unfoldable pub remembered : Daemon → Memory → Ring → Memory
remembered First m r = m
remembered Last m r = m
remembered Random m r =
    record { words = (draw (privileged_count r.values) m.words).1; asked = m.asked }
remembered Turn m r =
    memory_with m (asked_until (length r.values) (m.asked % length r.values)
    (next_privileged r.values (m.asked % length r.values)))
remembered Slow m r = m
remembered Groups m r = m

-- whether a daemon draws words
abbrev pub draws : Daemon → Bool
draws First = false
draws Last = false
draws Random = true
draws Turn = false
draws Slow = false
draws Groups = true

-- the machines that it chooses until the ring is settled, at most `most` of them
unfoldable pub choices : Daemon → ℕ → Memory → Ring → List ℕ
choices d zero m r = []
choices d (suc most) m r =
    cond (is_settled r.values) []
    (choice d m r ∷ choices d most (remembered d m r) (passed r (choice d m r)))

-- how many of these choices are granted
unfoldable pub passes : Daemon → ℕ → Memory → Ring → ℕ
passes d most m r = length (granted_passes r (choices d most m r))

-- the machines that pass until the ring is settled, at most `most`: those that a daemon chooses, and of
-- `Groups` the members of drawn groups
abbrev pub daemon_choices : Daemon → ℕ → Memory → Ring → List ℕ
daemon_choices First most m r = choices First most m r
daemon_choices Last most m r = choices Last most m r
daemon_choices Random most m r = choices Random most m r
daemon_choices Turn most m r = choices Turn most m r
daemon_choices Slow most m r = choices Slow most m r
daemon_choices Groups most m r = group_choices most [] m.words r
