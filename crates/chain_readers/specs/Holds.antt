-- The holds that a history records (this project's own).
use Rattle.std.specs.Prelude.{◌≡◌, ℕ, ◌<◌, ◌==◌, Bool, true, false, List, [], ◌∷◌, ◌++◌, Some, None, ◌⊎◌}
use Rattle.chain_readers.specs.declared.holds.Grant.{Grant}
use Rattle.chain_readers.specs.declared.holds.End.{End}
use Rattle.chain_readers.specs.declared.holds.Hold.{Hold}
use Rattle.chain_readers.specs.declared.signs.Sign.{Sign}
use Rattle.chain_readers.specs.declared.signs.Sign.TheVariants.{Granted, Carried, Ended, Other}

-- an event that records no hold
abbrev pub is_other : Sign → Bool
is_other Other = true
is_other _ = false

-- an event that may come while a hold with this token is open: it records none, or carries that
abbrev pub is_within : ℕ → Sign → Bool
is_within token Other = true
is_within token (Carried t) = t == token
is_within token _ = false

-- each sign is such a one
abbrev pub Each : (Sign → Bool) → List (ℕ × Sign) → Type 0
Each test [] = Unit {0}
Each test (s ∷ ss) = (test s.1 ≡ true) × Each test ss

-- What comes after the beginning of a hold: no end, and it is the last; or its end, after which
-- the signs are those of the other holds.
abbrev pub IsOpen : Hold → List Hold → List (ℕ × Sign) → Type 0
IsOpen h others signs = (h.end ≡ None) × (others ≡ []) × Each (is_within h.token) signs

abbrev pub IsEnded : Hold → (List (ℕ × Sign) → Type 0) → List (ℕ × Sign) → Type 0
IsEnded h Others signs =
    (e : End)
    × (within behind : List (ℕ × Sign))
    × (h.end ≡ Some e)
    × (signs ≡ within ++ (e.to, Ended e.left) ∷ behind)
    × Each (is_within h.token) within
    × Others behind

-- Signs, from where no client holds, are those of these holds, one after the other, with tokens that
-- rise from this number: each begins with its grant, and continues to its end.
abbrev pub AreHolds : ℕ → List Hold → List (ℕ × Sign) → Type 0
AreHolds low [] signs = Each is_other signs
AreHolds low (h ∷ others) signs =
    (g : Grant)
    × (free behind : List (ℕ × Sign))
    × (h.grant ≡ Some g)
    × (low < h.token)
    × (signs ≡ free ++ (g.from, Granted h.token g.label) ∷ behind)
    × Each is_other free
    × (IsOpen h others behind ⊎ IsEnded h (AreHolds h.token others) behind)

-- The same if what came before is gone: the first sign may be an event that carries a hold, of
-- whose beginning nothing but its token is known.
abbrev pub IsCarried : List Hold → List (ℕ × Sign) → Type 0
IsCarried [] signs = ⊥
IsCarried (h ∷ others) signs =
    (at : ℕ)
    × (behind : List (ℕ × Sign))
    × (h.grant ≡ None)
    × (0 < h.token)
    × (signs ≡ (at, Carried h.token) ∷ behind)
    × (IsOpen h others behind ⊎ IsEnded h (AreHolds h.token others) behind)

abbrev pub AreLaterHolds : List Hold → List (ℕ × Sign) → Type 0
AreLaterHolds holds signs = AreHolds 0 holds signs ⊎ IsCarried holds signs
