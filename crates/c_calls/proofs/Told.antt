-- A text that is measured, and then written if there is room.
use Rattle.std.proofs.Common.{◌≡◌, ◌≢◌, ℕ, ◌+◌, ◌-◌, ◌^◌, ◌<◌, ◌≤◌, ◌⊎◌, inl, inr, List, ◌++◌, length, drop, refl, ap, ◌∙◌, arith}
use Rattle.std.proofs.lemmas.Bool.{cases_lt}
use Rattle.endless_ring.specs.Filling.{Fills}
use Rattle.c_calls.specs.Codes.{no_memory, too_small}
use Rattle.c_calls.specs.Reports.{IsTextReport, HasNoSize}

none_before : (n : ℕ) → 0 + n ≡ n
none_before n = omega arith

-- here are the code and the size that are reported of what was measured
module _ (text : List ℕ) {none some : List ℕ} {whole : ℕ} (measured : Fills none some 0 whole text) {old : List ℕ} {code size said : ℕ}
    (lost : whole ≡ 2 ^ 64 - 1 → (code ≡ no_memory) × (said ≡ size)) (small : whole < 2 ^ 64 - 1 → length old < whole → (code ≡ too_small) × (said ≡ whole))
    (enough : whole < 2 ^ 64 - 1 → whole ≤ length old → (code ≡ 0) × (said ≡ whole)) where
  pub done : {new : List ℕ} {m : ℕ} → code ≡ 0 → Fills old new 0 m text → IsTextReport text code old new said
  done e f =
      elim (cases_lt whole (2 ^ 64 - 1)) [
        | inr ge ↦ let is : whole ≡ 2 ^ 64 - 1 = omega (arith, ge, measured.ends) in absurd (omega (arith, (lost is).0, e))
        | inl lt ↦ elim (cases_lt (length old) whole) [
          | inl over ↦ absurd (omega (arith, (small lt over).0, e))
          | inr room ↦
              let long : whole ≡ length text = omega (arith, lt, measured.ends) in
              record {
                size = omega (arith, (enough lt room).1, long);
                whole = λ le. (e, f.there (omega (arith, le)) ∙ ap (λ (n : ℕ). text ++ drop n old) (none_before (length text)));
                small = λ over. absurd (omega (arith, over, room, long));
              }
        ]
      ]

  pub not_done : code ≢ 0 → (HasNoSize text × (code ≡ no_memory) × (said ≡ size)) ⊎ IsTextReport text code old old said
  not_done ne =
      elim (cases_lt whole (2 ^ 64 - 1)) [
        | inr ge ↦
            let is : whole ≡ 2 ^ 64 - 1 = omega (arith, ge, measured.ends) in
            inl (omega (arith, is, measured.ends), (lost is).0, (lost is).1)
        | inl lt ↦ elim (cases_lt (length old) whole) [
          | inr room ↦ absurd (ne (enough lt room).0)
          | inl over ↦
              let long : whole ≡ length text = omega (arith, lt, measured.ends) in
              inr (record {
                size = omega (arith, (small lt over).1, long);
                whole = λ le. absurd (omega (arith, over, le, long));
                small = λ over'. ((small lt over).0, refl);
              })
        ]
      ]
