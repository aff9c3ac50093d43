-- The prefix of machine 0's value by two searches: for the end of the first machines that hold it, and for the value past that end.
use Rattle.std.proofs.Common.{◌≡◌, ℕ, zero, suc, ◌+◌, ◌-◌, ◌<◌, ◌≤◌, Bool, true, false, not, eqb, List, length, get_or, refl, sym, ap, ◌∙◌, arith, eq-eqb, inl, inr}
use Rattle.std.proofs.lemmas.Bool.{cases_lt, cases_eq, both_ways, not-true, not-false, eqb-true, false_from_ne_true}
use Rattle.ring_model.specs.Ring.{first_value_is_prefix, IsPrefix}
use Rattle.ring_model.proofs.Meaning.{front_means, prefix_front}

-- the machines below m hold the value of machine 0
abbrev pub SameBelow : List ℕ → ℕ → Type 0
SameBelow s m = (k : ℕ) → 1 ≤ k → k < m → not (eqb (get_or s k 0) (get_or s 0 0)) ≡ false

held : (s : List ℕ) (m : ℕ) → SameBelow s m → (k : ℕ) → k < m → get_or s k 0 ≡ get_or s 0 0
held s m same zero lt = refl
held s m same (suc k) lt = eqb-true _ _ (not-false _ (same (suc k) (omega arith) lt))

pub prefix_whole : (s : List ℕ) (m : ℕ) → m ≡ length s → SameBelow s m → true ≡ first_value_is_prefix s
prefix_whole s m e same = sym (prefix_front s m (λ i lt. ((λ h. omega arith), (λ le. held s m same i (omega arith)))))

-- t is the ring from machine m on
pub prefix_searched : (s t : List ℕ) (m : ℕ) (b : Bool) → 1 ≤ m → m < length s → length t ≡ length s - m → ((k : ℕ) → k < length t → get_or t k 0 ≡ get_or s (m + k) 0)
    → SameBelow s m → not (eqb (get_or s m 0) (get_or s 0 0)) ≡ true
    → (b ≡ true → (k : ℕ) × (1 ≤ k) × (k < length t) × (eqb (get_or t k 0) (get_or s 0 0) ≡ true))
    → (b ≡ false → (k : ℕ) → 1 ≤ k → k < length t → eqb (get_or t k 0) (get_or s 0 0) ≡ false) → not b ≡ first_value_is_prefix s
prefix_searched s t m true low high size at same other found none =
    let hit : (k : ℕ) × (1 ≤ k) × (k < length t) × (eqb (get_or t k 0) (get_or s 0 0) ≡ true) = found refl in
    let within : hit.0 < length t = hit.2 in
    let again : get_or s (m + hit.0) 0 ≡ get_or s 0 0 = sym (at hit.0 within) ∙ eqb-true _ _ hit.3 in
    sym (false_from_ne_true (first_value_is_prefix s)
    (λ e.
    let front : (p : ℕ) × (p < length s) × IsPrefix s p = (front_means s (omega arith)).0 e in
    let past : m + hit.0 ≤ front.0 = (front.2 (m + hit.0) (omega arith)).0 again in
    both_ways (eqb (get_or s m 0) (get_or s 0 0)) (not-true _ other) (eq-eqb _ _ ((front.2 m high).1 (omega arith)))))
prefix_searched s t m false low high size at same other found none =
    let below : (i : ℕ) → i < length s → get_or s i 0 ≡ get_or s 0 0 → i ≤ m - 1 = λ i lt h. elim (cases_lt i m) [
      | inl less ↦ omega arith
      | inr ge ↦ elim (cases_eq i m) [
        | inl e ↦ absurd (both_ways (eqb (get_or s m 0) (get_or s 0 0)) (not-true _ other) (eq-eqb _ _ (ap (λ j. get_or s j 0) (sym e) ∙ h)))
        | inr ne ↦
            let place : m + (i - m) ≡ i = omega arith in
            let value : get_or t (i - m) 0 ≡ get_or s 0 0 = at (i - m) (omega arith) ∙ ap (λ j. get_or s j 0) place ∙ h in
            absurd (both_ways (eqb (get_or t (i - m) 0) (get_or s 0 0)) (none refl (i - m) (omega arith) (omega arith)) (eq-eqb _ _ value))
      ]
    ] in
    sym (prefix_front s (m - 1) (λ i lt. ((λ h. below i lt h), (λ le. held s m same i (omega arith)))))
