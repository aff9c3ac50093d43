-- Runs without corruptions: the central daemon's choices, one after the other (Dijkstra 1974; Dolev
-- 2000, chapter 2).
use Rattle.std.specs.Prelude.{◌≡◌, ℕ, ◌+◌, ◌%◌, ◌<◌, cond, List, [], ◌∷◌}
use Rattle.ring_model.specs.Ring.{Ring, is_privileged, moved}

-- the ring after a pass by machine i: it moves where it is privileged
abbrev pub passed : Ring → ℕ → Ring
passed r i = cond (is_privileged r.values i) (moved r i) r

-- the ring after a pass by each chosen machine, in order
abbrev pub after_passes : Ring → List ℕ → Ring
after_passes r [] = r
after_passes r (i ∷ choices) = after_passes (passed r i) choices

-- the machines whose pass was granted, in order
abbrev pub granted_passes : Ring → List ℕ → List ℕ
granted_passes r [] = []
granted_passes r (i ∷ choices) =
    cond (is_privileged r.values i) (i ∷ granted_passes (passed r i) choices)
    (granted_passes (passed r i) choices)

-- each choice is a machine of a ring of n
abbrev pub AreBelow : ℕ → List ℕ → Type 0
AreBelow n [] = Unit {0}
AreBelow n (i ∷ choices) = (i < n) × AreBelow n choices

-- the list's machines are i and then, each time, the right neighbour of the one before
abbrev pub GoesRoundFrom : ℕ → ℕ → List ℕ → Type 0
GoesRoundFrom n i [] = Unit {0}
GoesRoundFrom n i (j ∷ js) = (j ≡ i) × GoesRoundFrom n ((i + 1) % n) js

-- j, where the list continues with it, is the right neighbour of i
abbrev pub GoesOnFrom : ℕ → ℕ → List ℕ → Type 0
GoesOnFrom n i [] = Unit {0}
GoesOnFrom n i (j ∷ js) = j ≡ (i + 1) % n

-- of each two successive machines of the list the second is the right neighbour of the first
abbrev pub GoesRound : ℕ → List ℕ → Type 0
GoesRound n [] = Unit {0}
GoesRound n (i ∷ js) = GoesOnFrom n i js × GoesRound n js
