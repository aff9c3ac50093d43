-- What holds of a history's holds (this project's own).
use Rattle.std.specs.Prelude.{◌≡◌, ℕ, ◌<◌, ◌≤◌, List, [], ◌∷◌, Option, Some, Ok, Err}
use Rattle.saved_history.specs.Content.{Block}
use Rattle.ring_model.specs.declared.bases.Base.{Base}
use Rattle.chain_readers.specs.declared.holds.Grant.{Grant}
use Rattle.chain_readers.specs.declared.holds.End.{End}
use Rattle.chain_readers.specs.declared.holds.Hold.{Hold}
use Rattle.chain_readers.specs.declared.signs.Sign.{Sign}
use Rattle.chain_readers.specs.Signs.{signs_of}
use Rattle.chain_readers.specs.Holds.{AreHolds, AreLaterHolds}
use Rattle.chain_readers.specs.Known.{Known, nobody_holds, nothing_known, all_holds, read}

-- what a reader knows after signs are their holds
abbrev pub ReadAreHolds : Type 0
ReadAreHolds =
    (signs : List (ℕ × Sign)) (k : Known)
    → (read nobody_holds signs ≡ Ok k → AreHolds 0 (all_holds k) signs)
    × (read nothing_known signs ≡ Ok k → AreLaterHolds (all_holds k) signs)

-- Where it finds that one fits no hold, the signs up to there, and whatever comes after them, are
-- those of no holds.
abbrev pub RefusedAreNoHolds : Type 0
RefusedAreNoHolds =
    (signs : List (ℕ × Sign)) (at : ℕ) (holds : List Hold)
    → (read nobody_holds signs ≡ Err at → ¬ AreHolds 0 holds signs)
    × (read nothing_known signs ≡ Err at → ¬ AreLaterHolds holds signs)

-- signs are those of one list of holds
abbrev pub HoldsAreOne : Type 0
HoldsAreOne =
    (signs : List (ℕ × Sign)) (holds others : List Hold)
    → (AreHolds 0 holds signs → AreHolds 0 others signs → holds ≡ others)
    × (AreLaterHolds holds signs → AreLaterHolds others signs → holds ≡ others)

-- ---- exclusion

-- the places of signs do not fall, from this one on
abbrev pub Rise : ℕ → List (ℕ × Sign) → Type 0
Rise low [] = Unit {0}
Rise low (s ∷ ss) = (low ≤ s.0) × Rise s.0 ss

-- one hold ends where the other begins, or before
abbrev pub IsBefore : Option End → Option Grant → Type 0
IsBefore (Some e) (Some g) = e.to ≤ g.from
IsBefore _ _ = ⊥

-- no two at a time, and each has a greater token than the one before
abbrev pub AreApart : List Hold → Type 0
AreApart [] = Unit {0}
AreApart (h ∷ []) = Unit {0}
AreApart (h ∷ g ∷ hs) = IsBefore h.end g.grant × (h.token < g.token) × AreApart (g ∷ hs)

abbrev pub HoldsExclude : Type 0
HoldsExclude =
    (signs : List (ℕ × Sign)) (holds : List Hold) → Rise 0 signs → AreLaterHolds holds signs
    → AreApart holds

-- the places of a segment's signs rise
abbrev pub SignsRise : Type 0
SignsRise = (b : Base) (k : Block) → Rise 0 (signs_of b k)
