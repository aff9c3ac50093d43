-- Values one after the other, and the loop that reads them.
use Rattle.std.proofs.Common.{◌≡◌, ℕ, zero, suc, ◌+◌, ◌-◌, ◌<◌, ◌≤◌, List, [], ◌∷◌, ◌++◌, length, Result, Ok, Err, refl, sym, ap, subst, ◌∙◌, append_assoc, arith}
use Rattle.std.specs.List.{flat_map, AllByRecursion}
use Rattle.std.proofs.lemmas.List.{append-nil}
use Rattle.text_lines.specs.declared.fault.Fault.{Fault}
use Rattle.text_lines.specs.declared.fault.Stop.{Stop}
use Rattle.text_lines.specs.declared.fault.Stop.TheVariants as stops
use Rattle.text_lines.specs.Reading.{Reader, ◌>>=◌, Fails}
use Rattle.text_lines.specs.Grammar.{Reads}
use Rattle.text_lines.proofs.Basics.{ok_is}
use Rattle.text_lines.proofs.Sequences.{both_reads, as_reads}
use Rattle.segment_files.specs.Reading.{repeat_at}

-- n values that fit
abbrev pub RepeatFits : {A : Type 0} → (A → Type 0) → ℕ → List A → Type 0
RepeatFits F n xs = (length xs ≡ n) × AllByRecursion F xs

module _ {A : Type 0} {F : A → Type 0} {s : A → List ℕ} {item : Reader A} (reads : Reads F s item) (some : A) where
  no_values : Reads (RepeatFits F 0) (flat_map s) (repeat_at item 0)
  unfolding repeat_at
  no_values = record {
    takes = λ bytes xs rest e. let p = ok_is ([], bytes) (xs, rest) e in subst (λ (z : List A × List ℕ). RepeatFits F 0 z.0 × (bytes ≡ flat_map s z.0 ++ z.1)) p ((refl, tt), refl);
    again = again;
    short = λ bytes e. absurd cc;
    bad = λ bytes n e. absurd cc;
  }
    where
      again : (xs : List A) (rest : List ℕ) → RepeatFits F 0 xs → repeat_at item 0 (flat_map s xs ++ rest) ≡ Ok (xs, rest)
      again [] rest f = refl
      again (x ∷ xs) rest f = absurd (omega (arith, f.0))

  abbrev back : List A → A × List A
  back [] = (some, [])
  back (x ∷ xs) = (x, xs)

  pub repeat_reads : (n : ℕ) → Reads (RepeatFits F n) (flat_map s) (repeat_at item n)
  unfolding repeat_at
  repeat_reads zero = no_values
  repeat_reads (suc k) = as_reads (RepeatFits F (suc k)) (flat_map s) (λ (p : A × List A). p.0 ∷ p.1) back
      (both_reads reads (repeat_reads k))
      (λ p f. (ap suc f.1.0, (f.0, f.1.1))) fits_back same (λ p f. refl)
    where
      fits_back : (xs : List A) → RepeatFits F (suc k) xs → F (back xs).0 × RepeatFits F k (back xs).1
      fits_back [] f = absurd (omega (arith, f.0))
      fits_back (x ∷ xs) f = let e = f.0 in (f.1.0, (omega (arith, e), f.1.1))

      same : (xs : List A) → RepeatFits F (suc k) xs → (back xs).0 ∷ (back xs).1 ≡ xs
      same [] f = absurd (omega (arith, f.0))
      same (x ∷ xs) f = refl

-- ---- the loop

-- the values that were read, before those that are still to be read
abbrev pub with_values : {A : Type 0} → List A → Result (List A × List ℕ) Fault → Result (List A × List ℕ) Fault
with_values front r = r >>= λ y. Ok (front ++ y.0, y.1)

abbrev pair_with : {A : Type 0} → A → List A × List ℕ → Result ((A × List A) × List ℕ) Fault
pair_with x y = Ok ((x, y.0), y.1)

abbrev as_list : {A : Type 0} → (A × List A) × List ℕ → Result (List A × List ℕ) Fault
as_list z = Ok (z.0.0 ∷ z.0.1, z.1)

list_more : {A : Type 0} (front : List A) (x : A) (r : Result (List A × List ℕ) Fault) → with_values front ((r >>= pair_with x) >>= as_list) ≡ with_values (front ++ x ∷ []) r
list_more {A} front x (Ok y) = ap (λ (xs : List A). Ok (xs, y.1)) (sym (append_assoc front (x ∷ []) y.0))
list_more front x (Err d) = refl

module _ {A : Type 0} (item : Reader A) (front : List A) (n i : ℕ) (rest : List ℕ) (total : Result (List A × List ℕ) Fault) (so_far : with_values front (repeat_at item (n - i) rest) ≡ total) where
  pub repeat_more : (x : A) (after : List ℕ) → i < n → item rest ≡ Ok (x, after) → with_values (front ++ x ∷ []) (repeat_at item (n - (i + 1)) after) ≡ total
  unfolding repeat_at
  repeat_more x after lt h =
      let k : n - i ≡ suc (n - (i + 1)) = omega arith in
      let one : with_values front (repeat_at item (n - i) rest) ≡ with_values (front ++ x ∷ []) (repeat_at item (n - (i + 1)) after) = rw (k, h) (list_more front x (repeat_at item (n - (i + 1)) after)) in
      sym one ∙ so_far

  pub repeat_fault : (e : Stop) → i < n → Fails e (item rest) → Fails e total
  unfolding repeat_at
  repeat_fault stops.Memory lt h = tt
  repeat_fault (stops.Fault d) lt h =
      let k : n - i ≡ suc (n - (i + 1)) = omega arith in
      let one : with_values front (repeat_at item (n - i) rest) ≡ Err d = rw (k, h) refl in
      sym so_far ∙ one

  pub repeat_done : n ≤ i → total ≡ Ok (front, rest)
  unfolding repeat_at
  repeat_done le =
      let k : n - i ≡ 0 = omega arith in
      let one : with_values front (repeat_at item (n - i) rest) ≡ Ok (front, rest) = rw k (ap (λ (xs : List A). Ok (xs, rest)) (append-nil front)) in
      sym so_far ∙ one
