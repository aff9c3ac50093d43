-- Blocks whose masks are joined before the one test.
use Rattle.std.proofs.Common.{◌≡◌, ◌≢◌, ℕ, ◌+◌, ◌-◌, ◌<◌, ◌≤◌, Bool, true, false, not, eqb, ap, ◌∙◌, arith, inl, inr, ◌⊎◌, eq-eqb, bit_or}
use Rattle.std.specs.Int.Bits.{or_zero_l}
use Rattle.std.specs.Int.Count.{count_trailing_zeros}
use Rattle.std.proofs.lemmas.Nat.{le_or_l, le_or_r}
use Rattle.std.proofs.lemmas.Bool.{cases_eq, cases_lt, both_ways, not-true, not-false, eqb-true}
use Rattle.ring_lanes.specs.Hits.{mask_from}
use Rattle.ring_lanes.proofs.Blocks.{none_in_block, lowest_lt, hit_at_lowest}

-- one of the machines from a on and before b passes, and none of them does
abbrev pub SomeHit : (ℕ → Bool) → ℕ → ℕ → Type 0
SomeHit p a b = (k : ℕ) × (a ≤ k) × (k < b) × (p k ≡ true)

abbrev pub NoHit : (ℕ → Bool) → ℕ → ℕ → Type 0
NoHit p a b = (k : ℕ) → a ≤ k → k < b → p k ≡ false

pub no_hit_then : (p : ℕ → Bool) (a m c b : ℕ) → c ≤ m → NoHit p a m → NoHit p c b → NoHit p a b
no_hit_then p a m c b le f h k low high = elim (cases_lt k m) [ inl l ↦ f k low l | inr l ↦ h k (omega arith) high ]

some_hit_in : (p : ℕ → Bool) (a b c d : ℕ) → c ≤ a → b ≤ d → SomeHit p a b → SomeHit p c d
some_hit_in p a b c d low high at =
    let from : a ≤ at.0 = at.1 in
    let to : at.0 < b = at.2 in
    (at.0, omega arith, omega arith, at.3)

or_none : (a b : ℕ) → bit_or a b ≡ 0 → (a ≡ 0) × (b ≡ 0)
or_none a b e =
    let left : a ≤ bit_or a b = le_or_l a b in
    let right : b ≤ bit_or a b = le_or_r a b in
    (omega arith, omega arith)

or_some : (a b : ℕ) → bit_or a b ≢ 0 → (a ≢ 0) ⊎ (b ≢ 0)
or_some a b ne = elim (cases_eq a 0) [
  | inl e ↦ inr (λ z. ne (ap (λ x. bit_or x b) e ∙ or_zero_l b ∙ z))
  | inr ea ↦ inl ea
]

some_in_block : (p : ℕ → Bool) (a m : ℕ) → m ≡ mask_from p a 32 → m ≢ 0 → SomeHit p a (a + 32)
some_in_block p a m e ne =
    let lt : count_trailing_zeros 64 m < 32 = lowest_lt p a 32 m (omega arith) e ne in
    (a + count_trailing_zeros 64 m, omega arith, omega arith, hit_at_lowest p a 32 m (omega arith) e ne)

some_in_two : (p : ℕ → Bool) (a m n : ℕ) → m ≡ mask_from p a 32 → n ≡ mask_from p (a + 32) 32 → bit_or m n ≢ 0 → SomeHit p a (a + 64)
some_in_two p a m n e f ne = elim (or_some m n ne) [
  | inl some ↦ some_hit_in p a (a + 32) a (a + 64) (omega arith) (omega arith) (some_in_block p a m e some)
  | inr some ↦ some_hit_in p (a + 32) (a + 32 + 32) a (a + 64) (omega arith) (omega arith) (some_in_block p (a + 32) n f some)
]

pub none_in_two : (p : ℕ → Bool) (a m n : ℕ) → m ≡ mask_from p a 32 → n ≡ mask_from p (a + 32) 32 → bit_or m n ≡ 0 → NoHit p a (a + 64)
none_in_two p a m n e f z =
    let both : (m ≡ 0) × (n ≡ 0) = or_none m n z in
    no_hit_then p a (a + 32) (a + 32) (a + 64) (omega arith) (λ k low high. none_in_block p a 32 m k e both.0 low high)
    (λ k low high. none_in_block p (a + 32) 32 n k f both.1 low (omega arith))

abbrev pub joined : ℕ → ℕ → ℕ → ℕ → ℕ
joined a b c d = bit_or (bit_or a b) (bit_or c d)

pub some_joined : (p : ℕ → Bool) (end a b c d : ℕ) → 129 ≤ end → a ≡ mask_from p (end - 128) 32 → b ≡ mask_from p (end - 96) 32 → c ≡ mask_from p (end - 64) 32 → d ≡ mask_from p (end - 32) 32
    → not (eqb (joined a b c d) 0) ≡ true → SomeHit p (end - 128) end
some_joined p end a b c d long ea eb ec ed t =
    let second : end - 96 ≡ end - 128 + 32 = omega arith in
    let fourth : end - 32 ≡ end - 64 + 32 = omega arith in
    let some : joined a b c d ≢ 0 = λ z. both_ways (eqb (joined a b c d) 0) (not-true _ t) (eq-eqb _ _ z) in
    elim (or_some (bit_or a b) (bit_or c d) some) [
      | inl left ↦ some_hit_in p (end - 128) (end - 128 + 64) (end - 128) end (omega arith) (omega arith)
          (some_in_two p (end - 128) a b ea (eb ∙ ap (λ j. mask_from p j 32) second) left)
      | inr right ↦ some_hit_in p (end - 64) (end - 64 + 64) (end - 128) end (omega arith) (omega arith)
          (some_in_two p (end - 64) c d ec (ed ∙ ap (λ j. mask_from p j 32) fourth) right)
    ]

pub none_joined : (p : ℕ → Bool) (end a b c d : ℕ) → 129 ≤ end → a ≡ mask_from p (end - 128) 32 → b ≡ mask_from p (end - 96) 32 → c ≡ mask_from p (end - 64) 32 → d ≡ mask_from p (end - 32) 32
    → not (eqb (joined a b c d) 0) ≡ false → NoHit p (end - 128) end
none_joined p end a b c d long ea eb ec ed t =
    let second : end - 96 ≡ end - 128 + 32 = omega arith in
    let fourth : end - 32 ≡ end - 64 + 32 = omega arith in
    let both : (bit_or a b ≡ 0) × (bit_or c d ≡ 0) = or_none (bit_or a b) (bit_or c d) (eqb-true _ _ (not-false _ t)) in
    no_hit_then p (end - 128) (end - 64) (end - 64) end (omega arith)
    (λ k low high. none_in_two p (end - 128) a b ea (eb ∙ ap (λ j. mask_from p j 32) second) both.0 k low (omega arith))
    (λ k low high. none_in_two p (end - 64) c d ec (ed ∙ ap (λ j. mask_from p j 32) fourth) both.1 k low (omega arith))
