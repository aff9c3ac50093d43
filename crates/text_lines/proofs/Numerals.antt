-- A decimal of any size is read where it is written in digits, the first of which is 0 only in 0.
use Rattle.std.proofs.Common.{◌≡◌, ◌≢◌, ℕ, zero, suc, ◌+◌, ◌-◌, ◌*◌, ◌/◌, ◌%◌, ◌<◌, ◌≤◌, Bool, true, false, cond, eqb, ltb, List, [], ◌∷◌, ◌++◌, length, map, Ok, Err, refl, sym, ap, subst, ◌∙◌, append_assoc, arith, inl, inr}
use Rattle.std.specs.Prelude.{◌&&◌}
use Rattle.std.specs.Int.Digits.{digits_of}
use Rattle.std.proofs.lemmas.Int.Digits.{digits_of_step}
use Rattle.std.proofs.lemmas.List.{map_push}
use Rattle.std.proofs.lemmas.Bool.{eqb-true, ltb-true, lt-ltb, ne_eqb, cases_lt, and_from}
use Rattle.text_lines.specs.declared.fault.Fault.TheVariants.{Bad}
use Rattle.text_lines.specs.Reading.{is_digit}
use Rattle.text_lines.proofs.Basics.{chosen, ok_is, same_eqb}
use Rattle.text_lines.proofs.Decimals.{IsDigit, digit_is, is_digit_at}
use Rattle.text_lines.specs.LongNumbers.{number_text, long_digits_at, decimal_at}

-- ---- digits

glyphs : List ℕ → List ℕ
glyphs ds = map (λ d. 48 + d) ds

text_some : (n : ℕ) → 0 < n → number_text n ≡ glyphs (digits_of 10 n)
unfolding number_text glyphs
text_some n some = rw (ne_eqb n 0 (λ e. omega (arith, some, e))) refl

-- the last digit is after the others
text_step : (n : ℕ) → 10 ≤ n → number_text n ≡ number_text (n / 10) ++ (48 + n % 10) ∷ []
unfolding glyphs
text_step n ge =
    text_some n (omega (arith, ge))
    ∙ (ap glyphs (digits_of_step 10 n (omega arith) (omega (arith, ge)))
    ∙ (map_push (λ d. 48 + d) (digits_of 10 (n / 10)) (n % 10)
    ∙ ap (λ (u : List ℕ). u ++ (48 + n % 10) ∷ []) (sym (text_some (n / 10) (omega (arith, ge))))))

text_digit : (n : ℕ) → n < 10 → number_text n ≡ (48 + n) ∷ []
unfolding number_text glyphs
text_digit zero lt = refl
text_digit (suc n) lt =
    let q : suc n / 10 ≡ 0 = omega (arith, lt) in
    let r : suc n % 10 ≡ suc n = omega (arith, lt) in
    text_some (suc n) (omega arith)
    ∙ (ap glyphs (digits_of_step 10 (suc n) (omega arith) (omega arith)) ∙ rw (q, r) refl)

pub more_digits : (v b : ℕ) → 0 < v → IsDigit b → number_text (v * 10 + (b - 48)) ≡ number_text v ++ b ∷ []
more_digits v b some d =
    let low : 48 ≤ b = d.low in
    let high : b ≤ 57 = d.high in
    let q : (v * 10 + (b - 48)) / 10 ≡ v = omega arith in
    let r : 48 + (v * 10 + (b - 48)) % 10 ≡ b = omega arith in
    text_step (v * 10 + (b - 48)) (omega arith) ∙ rw (q, r) refl

one_digit : (b : ℕ) → IsDigit b → number_text (b - 48) ≡ b ∷ []
one_digit b d =
    let low : 48 ≤ b = d.low in
    let high : b ≤ 57 = d.high in
    let r : 48 + (b - 48) ≡ b = omega arith in
    text_digit (b - 48) (omega arith) ∙ ap (λ (x : ℕ). x ∷ []) r

-- a fact of each number's text, digit by digit
pub by_digits : (P : ℕ → List ℕ → Type 0) → ((n : ℕ) → n < 10 → P n ((48 + n) ∷ [])) → ((n : ℕ) (ds : List ℕ) → 10 ≤ n → P (n / 10) ds → P n (ds ++ (48 + n % 10) ∷ [])) → (n : ℕ) → P n (number_text n)
by_digits P one more n = go n n (omega arith)
  where
    go : (fuel n : ℕ) → n ≤ fuel → P n (number_text n)
    go zero n le = let lt : n < 10 = omega (arith, le) in subst (λ (u : List ℕ). P n u) (sym (text_digit n lt)) (one n lt)
    go (suc fuel) n le = elim (cases_lt n 10) [
      | inl lt ↦ subst (λ (u : List ℕ). P n u) (sym (text_digit n lt)) (one n lt)
      | inr ge ↦ subst (λ (u : List ℕ). P n u) (sym (text_step n ge)) (more n (number_text (n / 10)) ge (go fuel (n / 10) (omega (arith, le, ge))))
    ]

-- ---- the readers

abbrev goes_on : ℕ → ℕ → Bool
goes_on n b = ltb 0 n && is_digit b

goes_is : (n b : ℕ) → goes_on n b ≡ true → (0 < n) × IsDigit b
goes_is n b e = let p = parts (ltb 0 n) (is_digit b) e in (ltb-true 0 n p.0, digit_is b p.1)
  where
    parts : (x y : Bool) → (x && y) ≡ true → (x ≡ true) × (y ≡ true)
    parts true true e = (refl, refl)
    parts true false e = absurd cc
    parts false y e = absurd cc

and_no : (x y : Bool) → y ≡ false → (x && y) ≡ false
and_no true y e = e
and_no false y e = refl

module _ (stop : ℕ) (apart : stop < 48) where
  digits_takes : (bytes : List ℕ) (v n : ℕ) (rest : List ℕ) → long_digits_at stop v bytes ≡ Ok (n, rest) → number_text v ++ bytes ≡ (number_text n ++ stop ∷ []) ++ rest
  unfolding long_digits_at
  digits_takes [] v n rest e = absurd cc
  digits_takes (b ∷ bs) v n rest e =
      elim (chosen (eqb b stop) (Ok (v, bs)) (cond (goes_on v b) (long_digits_at stop (v * 10 + (b - 48)) bs) (Err (Bad (suc (length bs))))) (Ok (n, rest)) e) [
        | inl h ↦ subst (λ (z : ℕ × List ℕ). number_text v ++ b ∷ bs ≡ (number_text z.0 ++ stop ∷ []) ++ z.1) (ok_is (v, bs) (n, rest) h.1) (rw (eqb-true b stop h.0) (sym (append_assoc (number_text v) (stop ∷ []) bs)))
        | inr h ↦
            elim (chosen (goes_on v b) (long_digits_at stop (v * 10 + (b - 48)) bs) (Err (Bad (suc (length bs)))) (Ok (n, rest)) h.1) [
              | inl k ↦ let g = goes_is v b k.0 in
                  sym (rw (more_digits v b g.0 g.1) (append_assoc (number_text v) (b ∷ []) bs)) ∙ digits_takes bs (v * 10 + (b - 48)) n rest k.1
              | inr k ↦ absurd cc
            ]
      ]

  pub decimal_takes : (bytes : List ℕ) (n : ℕ) (rest : List ℕ) → decimal_at stop bytes ≡ Ok (n, rest) → bytes ≡ (number_text n ++ stop ∷ []) ++ rest
  unfolding decimal_at
  decimal_takes [] n rest e = absurd cc
  decimal_takes (b ∷ bs) n rest e =
      elim (chosen (is_digit b) (long_digits_at stop (b - 48) bs) (Err (Bad (suc (length bs)))) (Ok (n, rest)) e) [
        | inl h ↦ sym (ap (λ (u : List ℕ). u ++ bs) (one_digit b (digit_is b h.0))) ∙ digits_takes bs (b - 48) n rest h.1
        | inr h ↦ absurd cc
      ]

  -- reading the digits of n comes to n
  Comes : ℕ → List ℕ → Type 0
  Comes n ds = (rest : List ℕ) → decimal_at stop (ds ++ rest) ≡ long_digits_at stop n rest

  comes_one : (n : ℕ) → n < 10 → Comes n ((48 + n) ∷ [])
  unfolding decimal_at Comes
  comes_one n lt rest =
      let d : IsDigit (48 + n) = record { low = omega arith; high = omega (arith, lt) } in
      let back : 48 + n - 48 ≡ n = omega arith in
      rw (is_digit_at (48 + n) d, back) refl

  comes_more : (n : ℕ) (ds : List ℕ) → 10 ≤ n → Comes (n / 10) ds → Comes n (ds ++ (48 + n % 10) ∷ [])
  unfolding long_digits_at Comes
  comes_more n ds ge ih rest =
      let d : IsDigit (48 + n % 10) = record { low = omega arith; high = omega arith } in
      let back : (n / 10) * 10 + (48 + n % 10 - 48) ≡ n = omega arith in
      let some : 0 < n / 10 = omega (arith, ge) in
      let g : goes_on (n / 10) (48 + n % 10) ≡ true = and_from _ _ (lt-ltb 0 (n / 10) some) (is_digit_at (48 + n % 10) d) in
      let ne : eqb (48 + n % 10) stop ≡ false = ne_eqb _ _ (λ e. omega (arith, e, apart)) in
      ap (decimal_at stop) (append_assoc ds ((48 + n % 10) ∷ []) rest) ∙ ih ((48 + n % 10) ∷ rest) ∙ rw (ne, g, back) refl

  -- whatever comes after the digits
  pub decimal_comes : (n : ℕ) (rest : List ℕ) → decimal_at stop (number_text n ++ rest) ≡ long_digits_at stop n rest
  unfolding Comes
  decimal_comes n = by_digits Comes comes_one comes_more n

  -- a byte that is not a digit and does not end it
  pub decimal_fails : (n b : ℕ) (rest : List ℕ) → b ≢ stop → is_digit b ≡ false → decimal_at stop ((number_text n ++ b ∷ []) ++ rest) ≡ Err (Bad (suc (length rest)))
  unfolding long_digits_at
  decimal_fails n b rest ne other = ap (decimal_at stop) (append_assoc (number_text n) (b ∷ []) rest) ∙ decimal_comes n (b ∷ rest) ∙ rw (ne_eqb b stop ne, and_no (ltb 0 n) (is_digit b) other) refl

  pub decimal_again : (n : ℕ) (rest : List ℕ) → decimal_at stop ((number_text n ++ stop ∷ []) ++ rest) ≡ Ok (n, rest)
  unfolding long_digits_at
  decimal_again n rest =
      ap (decimal_at stop) (append_assoc (number_text n) (stop ∷ []) rest) ∙ decimal_comes n (stop ∷ rest) ∙ rw (same_eqb stop) refl
