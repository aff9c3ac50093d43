-- Numbers on one line, and the loop that reads them.
use Rattle.std.proofs.Common.{◌≡◌, ℕ, zero, suc, ◌+◌, ◌-◌, ◌^◌, ◌<◌, ◌≤◌, List, [], ◌∷◌, ◌++◌, length, Result, Ok, Err, refl, sym, ap, subst, ◌∙◌, append_assoc, arith}
use Rattle.std.specs.Fmt.{decimal}
use Rattle.std.proofs.lemmas.List.{append-nil}
use Rattle.text_lines.specs.declared.fault.Fault.{Fault}
use Rattle.text_lines.specs.declared.fault.Stop.{Stop}
use Rattle.text_lines.specs.declared.fault.Stop.TheVariants as stops
use Rattle.text_lines.specs.Reading.{◌>>=◌, Fails, number_at, stop_of, row_at}
use Rattle.text_lines.specs.Spelling.{ended, row, Below, RowFits}
use Rattle.text_lines.specs.Grammar.{Reads}
use Rattle.text_lines.proofs.Basics.{ok_is}
use Rattle.text_lines.proofs.Decimals.{number_reads}
use Rattle.text_lines.proofs.Sequences.{both_reads, as_reads}

stop_small : (k : ℕ) → stop_of k < 48
stop_small zero = omega arith
stop_small (suc k) = omega arith

-- a row is its first number, with what ends it, and the row of the others
row_step : (k x : ℕ) (xs : List ℕ) → length xs ≡ k → row (x ∷ xs) ≡ (decimal x ++ stop_of k ∷ []) ++ row xs
row_step zero x [] e = sym (append-nil (ended x))
row_step zero x (y ∷ ys) e = absurd cc
row_step (suc k) x [] e = absurd cc
row_step (suc k) x (y ∷ ys) e = refl

abbrev row_back : List ℕ → ℕ × List ℕ
row_back [] = (0, [])
row_back (x ∷ xs) = (x, xs)

module _ (limit : ℕ) (wide : 10 ≤ limit) (small : limit ≤ 2 ^ 64) where
  no_numbers : Reads (RowFits limit 0) row (row_at limit 0)
  unfolding row_at
  no_numbers = record {
    takes = λ bytes xs rest e. let p = ok_is ([], bytes) (xs, rest) e in subst (λ (z : List ℕ × List ℕ). RowFits limit 0 z.0 × (bytes ≡ row z.0 ++ z.1)) p ((refl, tt), refl);
    again = again;
    short = λ bytes e. absurd cc;
    bad = λ bytes n e. absurd cc;
  }
    where
      again : (xs : List ℕ) (rest : List ℕ) → RowFits limit 0 xs → row_at limit 0 (row xs ++ rest) ≡ Ok (xs, rest)
      again [] rest f = refl
      again (x ∷ xs) rest f = absurd (omega (arith, f.0))

  row_law : (n : ℕ) → Reads (RowFits limit n) row (row_at limit n)
  unfolding row_at
  row_law zero = no_numbers
  row_law (suc k) = as_reads (RowFits limit (suc k)) row (λ (p : ℕ × List ℕ). p.0 ∷ p.1) row_back
      (both_reads (number_reads limit (stop_of k) wide small (stop_small k)) (row_law k))
      (λ p f. (ap suc f.1.0, (f.0, f.1.1))) fits_back same (λ p f. row_step k p.0 p.1 f.1.0)
    where
      fits_back : (xs : List ℕ) → RowFits limit (suc k) xs → Below limit (row_back xs).0 × RowFits limit k (row_back xs).1
      fits_back [] f = absurd (omega (arith, f.0))
      fits_back (x ∷ xs) f = let e = f.0 in (f.1.0, (omega (arith, e), f.1.1))

      same : (xs : List ℕ) → RowFits limit (suc k) xs → (row_back xs).0 ∷ (row_back xs).1 ≡ xs
      same [] f = absurd (omega (arith, f.0))
      same (x ∷ xs) f = refl

-- n numbers below a limit that is neither too small for a digit nor past a machine word
pub row_reads : (limit : ℕ) → 10 ≤ limit → limit ≤ 2 ^ 64 → (n : ℕ) → Reads (RowFits limit n) row (row_at limit n)
row_reads limit wide small n = row_law limit wide small n

-- ---- the loop

-- the numbers that were read, before those that are still to be read
abbrev pub with_numbers : List ℕ → Result (List ℕ × List ℕ) Fault → Result (List ℕ × List ℕ) Fault
with_numbers front r = r >>= λ y. Ok (front ++ y.0, y.1)

abbrev pair_with : ℕ → List ℕ × List ℕ → Result ((ℕ × List ℕ) × List ℕ) Fault
pair_with x y = Ok ((x, y.0), y.1)

abbrev as_list : (ℕ × List ℕ) × List ℕ → Result (List ℕ × List ℕ) Fault
as_list z = Ok (z.0.0 ∷ z.0.1, z.1)

list_more : (front : List ℕ) (x : ℕ) (r : Result (List ℕ × List ℕ) Fault) → with_numbers front ((r >>= pair_with x) >>= as_list) ≡ with_numbers (front ++ x ∷ []) r
list_more front x (Ok y) = ap (λ (xs : List ℕ). Ok (xs, y.1)) (sym (append_assoc front (x ∷ []) y.0))
list_more front x (Err d) = refl

module _ (limit : ℕ) (front : List ℕ) (n i : ℕ) (rest : List ℕ) (total : Result (List ℕ × List ℕ) Fault) (so_far : with_numbers front (row_at limit (n - i) rest) ≡ total) where
  pub row_more : (stop x : ℕ) (after : List ℕ) → i < n → stop ≡ stop_of (n - i - 1) → number_at limit stop rest ≡ Ok (x, after) → with_numbers (front ++ x ∷ []) (row_at limit (n - (i + 1)) after) ≡ total
  unfolding row_at
  row_more stop x after lt s h =
      let k : n - i ≡ suc (n - (i + 1)) = omega arith in
      let m : n - i - 1 ≡ n - (i + 1) = omega arith in
      let g : number_at limit (stop_of (n - (i + 1))) rest ≡ Ok (x, after) = rw (m) at (rw s at h) in
      let one : with_numbers front (row_at limit (n - i) rest) ≡ with_numbers (front ++ x ∷ []) (row_at limit (n - (i + 1)) after) = rw (k, g) (list_more front x (row_at limit (n - (i + 1)) after)) in
      sym one ∙ so_far

  pub row_fault : (stop : ℕ) (e : Stop) → i < n → stop ≡ stop_of (n - i - 1) → Fails e (number_at limit stop rest) → Fails e total
  unfolding row_at
  row_fault stop stops.Memory lt s h = tt
  row_fault stop (stops.Fault d) lt s h =
      let k : n - i ≡ suc (n - (i + 1)) = omega arith in
      let m : n - i - 1 ≡ n - (i + 1) = omega arith in
      let g : number_at limit (stop_of (n - (i + 1))) rest ≡ Err d = rw (m) at (rw s at h) in
      let one : with_numbers front (row_at limit (n - i) rest) ≡ Err d = rw (k, g) refl in
      sym so_far ∙ one

  pub row_done : n ≤ i → total ≡ Ok (front, rest)
  unfolding row_at
  row_done le =
      let k : n - i ≡ 0 = omega arith in
      let one : with_numbers front (row_at limit (n - i) rest) ≡ Ok (front, rest) = rw k (ap (λ (xs : List ℕ). Ok (xs, rest)) (append-nil front)) in
      sym so_far ∙ one
