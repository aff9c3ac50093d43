-- Rounds of the daemon `Turn`: how often it asks all machines (this project's own).
use Rattle.std.specs.Prelude.{ℕ, zero, suc, ◌+◌, ◌-◌, ◌*◌, ◌/◌, ◌%◌, cond, List, [], ◌∷◌}
use Rattle.ring_model.specs.Ring.{Ring, is_settled}
use Rattle.ring_model.specs.Runs.{passed}
use Rattle.ring_repairs.specs.Daemons.{choice, remembered}
use Rattle.ring_repairs.specs.declared.daemons.Daemon.{Daemon}
use Rattle.ring_repairs.specs.declared.daemons.Memory.{Memory}

-- what a daemon remembers where its choices, at most `most` of them, have settled the ring
unfoldable pub memory_after : Daemon → ℕ → Memory → Ring → Memory
memory_after d zero m r = m
memory_after d (suc most) m r =
    cond (is_settled r.values) m (memory_after d most (remembered d m r) (passed r (choice d m r)))

-- the machines of a ring of n that are asked from turn t on, in as many turns as are given: machine 0
-- comes after machine n - 1
abbrev pub asked_from : ℕ → ℕ → ℕ → List ℕ
asked_from n t zero = []
asked_from n t (suc turns) = t % n ∷ asked_from n (suc t) turns

-- In a round each of the n machines is asked once, from machine 0 to machine n - 1. How many rounds are
-- begun in these turns: the last one counts, even if it is not complete.
unfoldable pub rounds_of : ℕ → ℕ → ℕ
rounds_of n turns = (turns + (n - 1)) / n

-- as many complete rounds settle every ring (`FewRoundsSettle` of `ring_model`)
abbrev pub most_rounds : ℕ → ℕ
most_rounds n = 2 * n - 3
