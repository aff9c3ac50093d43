-- The faults of start values that are refused.
use Rattle.std.proofs.Common.{◌≡◌, ℕ, List, inl, inr, arith}
use Rattle.std.proofs.lemmas.Bool.{cases_lt}
use Rattle.ring_state.specs.StateFault.{IsFirstOver}

-- one value is the first that is too large
pub one_is_first : (k : ℕ) (values : List ℕ) (i j : ℕ) → IsFirstOver k values i → IsFirstOver k values j → i ≡ j
one_is_first k values i j h g = elim (cases_lt i j) [
  | inl before ↦ let low = g.least i before in let high = h.over in absurd (omega arith)
  | inr behind ↦ elim (cases_lt j i) [
    | inl after ↦ let low = h.least j after in let high = g.over in absurd (omega arith)
    | inr here ↦ omega arith
  ]
]
