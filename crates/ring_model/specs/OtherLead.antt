-- Why the lead asks for a prefix: another lead, under which the rest may rise (this project's own).
use Rattle.std.specs.Prelude.{◌≡◌, ℕ, ◌+◌, ◌*◌, ◌%◌, ◌<◌, true, false, cond, [], ◌∷◌, length, slice_index}
use Rattle.ring_model.specs.Numbers.{least}
use Rattle.ring_model.specs.Ring.{Ring, ring_with, IsRing, is_privileged, moved, is_settled, weight, is_absent, rest}

-- how far machine 0 has to step until no other machine holds its value, and 0 only where none holds
-- it now
abbrev pub other_lead : Ring → ℕ
other_lead r = least (λ j. is_absent r.values ((slice_index r.values 0 + j) % r.k)) 0 r.k

-- the rest by that lead
abbrev pub other_rest : Ring → ℕ
other_rest r = cond (is_settled r.values) 0 (weight r.values + length r.values * other_lead r)

-- descent by that rest, which does not hold
abbrev pub OtherDescent : Type 0
OtherDescent =
    (r : Ring) (i : ℕ) → IsRing r → i < length r.values → is_privileged r.values i ≡ true
    → is_settled r.values ≡ false → other_rest (moved r i) < other_rest r

-- four machines with four values, before and after the move of machine 1, a copy
abbrev pub before_copy : Ring
before_copy = ring_with 4 (3 ∷ 2 ∷ 1 ∷ 0 ∷ [])

abbrev pub after_copy : Ring
after_copy = ring_with 4 (3 ∷ 3 ∷ 1 ∷ 0 ∷ [])

-- the copy lowers the rest from 6 to 3, and raises the other one from 6 to 15
abbrev pub OtherRestRises : Type 0
OtherRestRises = (is_privileged before_copy.values 1 ≡ true) × (moved before_copy 1 ≡ after_copy)
    × (rest before_copy ≡ 6) × (rest after_copy ≡ 3)
    × (other_rest before_copy ≡ 6) × (other_rest after_copy ≡ 15)
