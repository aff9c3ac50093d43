-- Texts that are written column by column.
use Rattle.std.proofs.Common.{◌≡◌, ℕ, zero, suc, ◌+◌, ◌<◌, List, ◌++◌, Option, Err, sym, subst, inl, inr, arith}
use Rattle.std.specs.Prelude.{nat_lt}
use Rattle.std.specs.Io.KnownBytes.{Appends}
use Rattle.std.proofs.lemmas.Bool.{cases_Bool}
use Rattle.std.proofs.lemmas.Bool.Decides.{nat_tests}
use Rattle.text_lines.specs.declared.write.WriteFault.{WriteFault}
use Rattle.text_lines.specs.Writing.{Writes}
use Rattle.text_lines.proofs.Writing.{appends_then, writes_then, writes_err}
use Rattle.history_picture.specs.Stretches.{pieces}

module _ (f : ℕ → List ℕ) where
  pub piece_more : (i : ℕ) (a b c : Option (List ℕ)) → Appends a b (pieces f i) → Appends b c (f i) → Appends a c (pieces f (i + 1))
  piece_more i a b c so_far h =
      let e : i + 1 ≡ suc i = omega arith in
      subst (λ (j : ℕ). Appends a c (pieces f j)) (sym e) (appends_then a b c (pieces f i) (f i) so_far h)

  pub piece_fault : (i m : ℕ) (a b c : Option (List ℕ)) (e : WriteFault) → i < m → Appends a b (pieces f i) → Writes b c (Err e) (f i) → Writes a c (Err e) (pieces f m)
  piece_fault i zero a b c e lt so_far h = absurd (omega arith)
  piece_fault i (suc m) a b c e lt so_far h =
      elim (cases_Bool (nat_lt i m)) [
        | inl y ↦ writes_err a c e (pieces f m) (f m) (piece_fault i m a b c e (grind (arith, nat_tests)) so_far h)
        | inr n ↦
            let same : i ≡ m = grind (arith, nat_tests) in
            subst (λ (j : ℕ). Writes a c (Err e) (pieces f j ++ f j)) same (writes_then a b c (Err e) (pieces f i) (f i) so_far h)
      ]

-- a fault in a piece after another one, and before more
pub writes_second : (a b c : Option (List ℕ)) (e : WriteFault) (x y z : List ℕ) → Appends a b x → Writes b c (Err e) y → Writes a c (Err e) (x ++ (y ++ z))
writes_second a b c e x y z h k = writes_then a b c (Err e) x (y ++ z) h (writes_err b c e y z k)
