-- A number is read where it is written in digits, with a leading 0 only in 0 itself.
use Rattle.std.proofs.Common.{◌≡◌, ℕ, suc, ◌+◌, ◌-◌, ◌*◌, ◌/◌, ◌%◌, ◌^◌, ◌<◌, ◌≤◌, Bool, true, false, cond, eqb, ltb, leb, get_or, zero, List, [], ◌∷◌, ◌++◌, length, Ok, Err, refl, sym, ap, subst, ◌∙◌, append_assoc, arith, inl, inr}
use Rattle.std.specs.Prelude.{◌&&◌}
use Rattle.std.specs.Fmt.{decimal}
use Rattle.std.proofs.lemmas.Fmt.{decimal_digit, decimal_step, decimal_by_steps, first_decimal, decimal_nonempty}
use Rattle.std.proofs.lemmas.List.{append-nil}
use Rattle.std.proofs.lemmas.Bool.{eqb-true, eqb-false, leb-true, ltb-true, le-leb, lt-ltb, ne_eqb}
use Rattle.text_lines.specs.declared.fault.Fault.TheVariants.{Short, Bad}
use Rattle.text_lines.specs.Reading.{is_digit, grows, digits_at, number_at, positive_at}
use Rattle.text_lines.specs.Spelling.{Below, Positive}
use Rattle.text_lines.specs.Grammar.{Reads, ShortOf, BadAt}
use Rattle.text_lines.proofs.Basics.{chosen, ok_is, same_eqb}

and_both : (a b : Bool) → (a && b) ≡ true → (a ≡ true) × (b ≡ true)
and_both true true e = (refl, refl)
and_both true false e = absurd cc
and_both false b e = absurd cc

both_and : (a b : Bool) → a ≡ true → b ≡ true → (a && b) ≡ true
both_and true true p q = refl
both_and true false p q = absurd cc
both_and false b p q = absurd cc

pub record IsDigit (b : ℕ) : Type 0 where
  pub low : 48 ≤ b
  pub high : b ≤ 57

pub digit_is : (b : ℕ) → is_digit b ≡ true → IsDigit b
digit_is b e = let p = and_both (leb 48 b) (leb b 57) e in record { low = leb-true 48 b p.0; high = leb-true b 57 p.1 }

pub is_digit_at : (b : ℕ) → IsDigit b → is_digit b ≡ true
is_digit_at b d = both_and (leb 48 b) (leb b 57) (le-leb 48 b d.low) (le-leb b 57 d.high)

pub record Grows (limit v b : ℕ) : Type 0 where
  pub some : 0 < v
  pub digit : IsDigit b
  pub below : v * 10 + (b - 48) < limit

pub grows_is : (limit v b : ℕ) → grows limit v b ≡ true → Grows limit v b
grows_is limit v b e =
    let p = and_both (ltb 0 v) (is_digit b && ltb (v * 10 + (b - 48)) limit) e in
    let q = and_both (is_digit b) (ltb (v * 10 + (b - 48)) limit) p.1 in
    record { some = ltb-true 0 v p.0; digit = digit_is b q.0; below = ltb-true _ _ q.1 }

pub grows_at : (limit v b : ℕ) → Grows limit v b → grows limit v b ≡ true
grows_at limit v b g = both_and _ _ (lt-ltb 0 v g.some) (both_and _ _ (is_digit_at b g.digit) (lt-ltb _ _ g.below))

pub grows_no : (limit v b : ℕ) → (Grows limit v b → ⊥) → grows limit v b ≡ false
grows_no limit v b nope = go (grows limit v b) refl
  where
    go : (t : Bool) → grows limit v b ≡ t → grows limit v b ≡ false
    go true e = absurd (nope (grows_is limit v b e))
    go false e = e

more_digits : (v b : ℕ) → 0 < v → IsDigit b → v * 10 + (b - 48) < 2 ^ 64 → decimal (v * 10 + (b - 48)) ≡ decimal v ++ b ∷ []
more_digits v b some d lt =
    let low : 48 ≤ b = d.low in
    let high : b ≤ 57 = d.high in
    let q : (v * 10 + (b - 48)) / 10 ≡ v = omega arith in
    let r : 48 + (v * 10 + (b - 48)) % 10 ≡ b = omega arith in
    decimal_step (v * 10 + (b - 48)) (omega arith) lt ∙ rw (q, r) refl

one_digit : (b : ℕ) → IsDigit b → decimal (b - 48) ≡ b ∷ []
one_digit b d =
    let low : 48 ≤ b = d.low in
    let high : b ≤ 57 = d.high in
    let r : 48 + (b - 48) ≡ b = omega arith in
    decimal_digit (b - 48) (omega arith) ∙ ap (λ (x : ℕ). x ∷ []) r

module _ (limit stop : ℕ) (wide : 10 ≤ limit) (small : limit ≤ 2 ^ 64) (apart : stop < 48) where
  -- one digit more
  shift : (v b : ℕ) (bs : List ℕ) → Grows limit v b → decimal v ++ b ∷ bs ≡ decimal (v * 10 + (b - 48)) ++ bs
  shift v b bs g = let lt : v * 10 + (b - 48) < 2 ^ 64 = omega (arith, g.below) in sym (rw (more_digits v b g.some g.digit lt) (append_assoc (decimal v) (b ∷ []) bs))

  digits_takes : (bytes : List ℕ) (v n : ℕ) (rest : List ℕ) → v < limit → digits_at limit stop v bytes ≡ Ok (n, rest) → (n < limit) × (decimal v ++ bytes ≡ (decimal n ++ stop ∷ []) ++ rest)
  unfolding digits_at
  digits_takes [] v n rest lt e = absurd cc
  digits_takes (b ∷ bs) v n rest lt e =
      elim (chosen (eqb b stop) (Ok (v, bs)) (cond (grows limit v b) (digits_at limit stop (v * 10 + (b - 48)) bs) (Err (Bad (suc (length bs))))) (Ok (n, rest)) e) [
        | inl h ↦ subst (λ (z : ℕ × List ℕ). (z.0 < limit) × (decimal v ++ b ∷ bs ≡ (decimal z.0 ++ stop ∷ []) ++ z.1)) (ok_is (v, bs) (n, rest) h.1) (lt, rw (eqb-true b stop h.0) (sym (append_assoc (decimal v) (stop ∷ []) bs)))
        | inr h ↦
            elim (chosen (grows limit v b) (digits_at limit stop (v * 10 + (b - 48)) bs) (Err (Bad (suc (length bs)))) (Ok (n, rest)) h.1) [
              | inl k ↦ let g = grows_is limit v b k.0 in let t = digits_takes bs (v * 10 + (b - 48)) n rest g.below k.1 in (t.0, shift v b bs g ∙ t.1)
              | inr k ↦ absurd cc
            ]
      ]

  digits_short : (bytes : List ℕ) (v : ℕ) → v < limit → digits_at limit stop v bytes ≡ Err Short → ShortOf (λ (n : ℕ). n < limit) (λ n. decimal n ++ stop ∷ []) (decimal v ++ bytes)
  unfolding digits_at
  digits_short [] v lt e = record { value = v; more = stop ∷ []; fits = lt; viable = append_assoc (decimal v) [] (stop ∷ []) }
  digits_short (b ∷ bs) v lt e =
      elim (chosen (eqb b stop) (Ok (v, bs)) (cond (grows limit v b) (digits_at limit stop (v * 10 + (b - 48)) bs) (Err (Bad (suc (length bs))))) (Err Short) e) [
        | inl h ↦ absurd cc
        | inr h ↦
            elim (chosen (grows limit v b) (digits_at limit stop (v * 10 + (b - 48)) bs) (Err (Bad (suc (length bs)))) (Err Short) h.1) [
              | inl k ↦ let g = grows_is limit v b k.0 in let t = digits_short bs (v * 10 + (b - 48)) g.below k.1 in
                  record { value = t.value; more = t.more; fits = t.fits; viable = ap (λ (u : List ℕ). u ++ t.more) (shift v b bs g) ∙ t.viable }
              | inr k ↦ absurd cc
            ]
      ]

  -- where the digits end and the number can't
  record Broken (v : ℕ) (bytes : List ℕ) : Type 0 where
    front : List ℕ
    byte : ℕ
    back : List ℕ
    value : ℕ
    parts : bytes ≡ front ++ byte ∷ back
    fits : value < limit
    viable : decimal v ++ front ≡ decimal value
    dead : (w : List ℕ) → digits_at limit stop v (front ++ byte ∷ w) ≡ Err (Bad (suc (length w)))

  digits_bad : (bytes : List ℕ) (v m : ℕ) → v < limit → digits_at limit stop v bytes ≡ Err (Bad m) → Broken v bytes
  unfolding digits_at
  digits_bad [] v m lt e = absurd cc
  digits_bad (b ∷ bs) v m lt e =
      elim (chosen (eqb b stop) (Ok (v, bs)) (cond (grows limit v b) (digits_at limit stop (v * 10 + (b - 48)) bs) (Err (Bad (suc (length bs))))) (Err (Bad m)) e) [
        | inl h ↦ absurd cc
        | inr h ↦
            elim (chosen (grows limit v b) (digits_at limit stop (v * 10 + (b - 48)) bs) (Err (Bad (suc (length bs)))) (Err (Bad m)) h.1) [
              | inl k ↦ let g = grows_is limit v b k.0 in let t = digits_bad bs (v * 10 + (b - 48)) m g.below k.1 in
                  record { front = b ∷ t.front; byte = t.byte; back = t.back; value = t.value; parts = ap (λ (u : List ℕ). b ∷ u) t.parts; fits = t.fits; viable = shift v b t.front g ∙ t.viable; dead = λ w. rw (h.0, k.0) (t.dead w) }
              | inr k ↦ record { front = []; byte = b; back = bs; value = v; parts = refl; fits = lt; viable = append-nil (decimal v); dead = λ w. rw (h.0, k.0) refl }
            ]
      ]

  number_takes : (bytes : List ℕ) (n : ℕ) (rest : List ℕ) → number_at limit stop bytes ≡ Ok (n, rest) → (n < limit) × (bytes ≡ (decimal n ++ stop ∷ []) ++ rest)
  unfolding number_at
  number_takes [] n rest e = absurd cc
  number_takes (b ∷ bs) n rest e =
      elim (chosen (is_digit b) (digits_at limit stop (b - 48) bs) (Err (Bad (suc (length bs)))) (Ok (n, rest)) e) [
        | inl h ↦
            let d = digit_is b h.0 in
            let low : 48 ≤ b = d.low in
            let high : b ≤ 57 = d.high in
            let t = digits_takes bs (b - 48) n rest (omega arith) h.1 in (t.0, sym (ap (λ (u : List ℕ). u ++ bs) (one_digit b d)) ∙ t.1)
        | inr h ↦ absurd cc
      ]

  number_short : (bytes : List ℕ) → number_at limit stop bytes ≡ Err Short → ShortOf (λ (n : ℕ). n < limit) (λ n. decimal n ++ stop ∷ []) bytes
  unfolding number_at
  number_short [] e = record { value = 0; more = decimal 0 ++ stop ∷ []; fits = omega arith; viable = refl }
  number_short (b ∷ bs) e =
      elim (chosen (is_digit b) (digits_at limit stop (b - 48) bs) (Err (Bad (suc (length bs)))) (Err Short) e) [
        | inl h ↦
            let d = digit_is b h.0 in
            let low : 48 ≤ b = d.low in
            let high : b ≤ 57 = d.high in
            let t = digits_short bs (b - 48) (omega arith) h.1 in
            record { value = t.value; more = t.more; fits = t.fits; viable = sym (ap (λ (u : List ℕ). (u ++ bs) ++ t.more) (one_digit b d)) ∙ t.viable }
        | inr h ↦ absurd cc
      ]

  number_bad : (bytes : List ℕ) (m : ℕ) → number_at limit stop bytes ≡ Err (Bad m) → BadAt (λ (n : ℕ). n < limit) (λ n. decimal n ++ stop ∷ []) (number_at limit stop) bytes
  unfolding number_at
  number_bad [] m e = absurd cc
  number_bad (b ∷ bs) m e =
      elim (chosen (is_digit b) (digits_at limit stop (b - 48) bs) (Err (Bad (suc (length bs)))) (Err (Bad m)) e) [
        | inl h ↦
            let d = digit_is b h.0 in
            let low : 48 ≤ b = d.low in
            let high : b ≤ 57 = d.high in
            let t = digits_bad bs (b - 48) m (omega arith) h.1 in
            record {
              front = b ∷ t.front;
              byte = t.byte;
              back = t.back;
              value = t.value;
              more = stop ∷ [];
              parts = ap (λ (u : List ℕ). b ∷ u) t.parts;
              fits = t.fits;
              viable = sym (ap (λ (u : List ℕ). (u ++ t.front) ++ stop ∷ []) (one_digit b d)) ∙ ap (λ (u : List ℕ). u ++ stop ∷ []) t.viable;
              dead = λ w. rw h.0 (t.dead w);
            }
        | inr h ↦ record { front = []; byte = b; back = bs; value = 0; more = decimal 0 ++ stop ∷ []; parts = refl; fits = omega arith; viable = refl; dead = λ w. rw h.0 refl }
      ]

  -- reading the digits of n comes to n
  Comes : ℕ → List ℕ → Type 0
  Comes n ds = n < limit → (rest : List ℕ) → number_at limit stop (ds ++ rest) ≡ digits_at limit stop n rest

  comes_one : (n : ℕ) → n < 10 → Comes n ((48 + n) ∷ [])
  unfolding number_at Comes
  comes_one n lt small_n rest =
      let d : IsDigit (48 + n) = record { low = omega arith; high = omega arith } in
      let back : 48 + n - 48 ≡ n = omega arith in
      rw (is_digit_at (48 + n) d, back) refl

  comes_more : (n : ℕ) (ds : List ℕ) → 10 ≤ n → Comes (n / 10) ds → Comes n (ds ++ ((48 + n % 10) ∷ []))
  unfolding digits_at Comes
  comes_more n ds ge ih below rest =
      let d : IsDigit (48 + n % 10) = record { low = omega arith; high = omega arith } in
      let back : (n / 10) * 10 + (48 + n % 10 - 48) ≡ n = omega arith in
      let g : Grows limit (n / 10) (48 + n % 10) = record { some = omega arith; digit = d; below = rw back below } in
      let ne : eqb (48 + n % 10) stop ≡ false = ne_eqb _ _ (λ e. omega arith) in
      ap (number_at limit stop) (append_assoc ds ((48 + n % 10) ∷ []) rest) ∙ ih (omega arith) ((48 + n % 10) ∷ rest) ∙ rw (ne, grows_at limit (n / 10) (48 + n % 10) g, back) refl

  number_again : (n : ℕ) (rest : List ℕ) → n < limit → number_at limit stop ((decimal n ++ stop ∷ []) ++ rest) ≡ Ok (n, rest)
  unfolding digits_at Comes
  number_again n rest lt =
      let comes = decimal_by_steps Comes comes_one comes_more n (omega arith) lt (stop ∷ rest) in
      ap (number_at limit stop) (append_assoc (decimal n) (stop ∷ []) rest) ∙ comes ∙ rw (same_eqb stop) refl

  number_law : Reads (λ (n : ℕ). n < limit) (λ n. decimal n ++ stop ∷ []) (number_at limit stop)
  number_law = record { takes = number_takes; again = number_again; short = number_short; bad = number_bad }

pub number_reads : (limit stop : ℕ) → 10 ≤ limit → limit ≤ 2 ^ 64 → stop < 48 → Reads (Below limit) (λ n. decimal n ++ stop ∷ []) (number_at limit stop)
number_reads limit stop wide small apart = number_law limit stop wide small apart

-- ---- a number that is not 0

zero_begins : decimal 0 ≡ 48 ∷ []
zero_begins = decimal_digit 0 (omega arith)

module _ (limit stop : ℕ) (wide : 10 ≤ limit) (small : limit ≤ 2 ^ 64) (apart : stop < 48) where
  not_zero : (b : ℕ) (bs more : List ℕ) (n : ℕ) → eqb b 48 ≡ false → b ∷ bs ≡ (decimal n ++ stop ∷ []) ++ more → 0 < n
  not_zero b bs more zero e h = let k : b ∷ bs ≡ ((48 ∷ []) ++ stop ∷ []) ++ more = h ∙ ap (λ (u : List ℕ). (u ++ stop ∷ []) ++ more) zero_begins in absurd (eqb-false b 48 e cc)
  not_zero b bs more (suc n) e h = omega arith

  some_byte : (n : ℕ) → 0 < n → n < limit → (d : ℕ) × (u : List ℕ) × (decimal n ≡ d ∷ u) × (48 < d)
  some_byte n some lt = go (decimal n) refl
    where
      go : (ds : List ℕ) → decimal n ≡ ds → (d : ℕ) × (u : List ℕ) × (decimal n ≡ d ∷ u) × (48 < d)
      go [] e = let h = decimal_nonempty n (omega (arith, lt, small)) in absurd (omega (arith, ap length e, h))
      go (d ∷ u) e = let h : 48 < get_or (decimal n) 0 0 = first_decimal n some (omega (arith, lt, small)) in (d, u, e, rw e at h)

  positive_takes : (bytes : List ℕ) (n : ℕ) (rest : List ℕ) → positive_at limit stop bytes ≡ Ok (n, rest) → Positive limit n × (bytes ≡ (decimal n ++ stop ∷ []) ++ rest)
  unfolding positive_at
  positive_takes [] n rest e = absurd cc
  positive_takes (b ∷ bs) n rest e =
      elim (chosen (eqb b 48) (Err (Bad (suc (length bs)))) (number_at limit stop (b ∷ bs)) (Ok (n, rest)) e) [
        | inl h ↦ absurd cc
        | inr h ↦ let t = (number_law limit stop wide small apart).takes (b ∷ bs) n rest h.1 in ((not_zero b bs rest n h.0 t.1, t.0), t.1)
      ]

  positive_again : (n : ℕ) (rest : List ℕ) → Positive limit n → positive_at limit stop ((decimal n ++ stop ∷ []) ++ rest) ≡ Ok (n, rest)
  unfolding positive_at
  positive_again n rest f =
      let k = some_byte n f.0 f.1 in
      let e : (decimal n ++ stop ∷ []) ++ rest ≡ k.0 ∷ ((k.1 ++ stop ∷ []) ++ rest) = ap (λ (u : List ℕ). (u ++ stop ∷ []) ++ rest) k.2 in
      let big = k.3 in
      ap (positive_at limit stop) e ∙ rw (ne_eqb k.0 48 (λ q. omega (arith, big))) (ap (number_at limit stop) (sym e) ∙ (number_law limit stop wide small apart).again n rest f.1)

  one_fits : Positive limit 1
  one_fits = (omega arith, omega (arith, wide))

  positive_short : (bytes : List ℕ) → positive_at limit stop bytes ≡ Err Short → ShortOf (Positive limit) (λ n. decimal n ++ stop ∷ []) bytes
  unfolding positive_at
  positive_short [] e = record { value = 1; more = decimal 1 ++ stop ∷ []; fits = one_fits; viable = refl }
  positive_short (b ∷ bs) e =
      elim (chosen (eqb b 48) (Err (Bad (suc (length bs)))) (number_at limit stop (b ∷ bs)) (Err Short) e) [
        | inl h ↦ absurd cc
        | inr h ↦ let t = (number_law limit stop wide small apart).short (b ∷ bs) h.1 in
            record { value = t.value; more = t.more; fits = (not_zero b (bs ++ t.more) [] t.value h.0 (t.viable ∙ sym (append-nil (decimal t.value ++ stop ∷ []))), t.fits); viable = t.viable }
      ]

  positive_bad : (bytes : List ℕ) (n : ℕ) → positive_at limit stop bytes ≡ Err (Bad n) → BadAt (Positive limit) (λ n. decimal n ++ stop ∷ []) (positive_at limit stop) bytes
  unfolding positive_at
  positive_bad [] n e = absurd cc
  positive_bad (b ∷ bs) n e =
      elim (chosen (eqb b 48) (Err (Bad (suc (length bs)))) (number_at limit stop (b ∷ bs)) (Err (Bad n)) e) [
        | inl h ↦ record { front = []; byte = b; back = bs; value = 1; more = decimal 1 ++ stop ∷ []; parts = refl; fits = one_fits; viable = refl; dead = λ w. rw h.0 refl }
        | inr h ↦ let t = (number_law limit stop wide small apart).bad (b ∷ bs) n h.1 in go t.front t.byte t.back t.value t.more h.0 t.parts t.fits t.viable t.dead
      ]
    where
      go : (front : List ℕ) (byte : ℕ) (back : List ℕ) (value : ℕ) (more : List ℕ) → eqb b 48 ≡ false → b ∷ bs ≡ front ++ byte ∷ back → value < limit → front ++ more ≡ decimal value ++ stop ∷ []
          → ((w : List ℕ) → number_at limit stop (front ++ byte ∷ w) ≡ Err (Bad (suc (length w)))) → BadAt (Positive limit) (λ n. decimal n ++ stop ∷ []) (positive_at limit stop) (b ∷ bs)
      go [] byte back value more ne parts fits viable dead =
          let same : b ≡ byte = cc in
          record { front = []; byte = byte; back = back; value = 1; more = decimal 1 ++ stop ∷ []; parts = parts; fits = one_fits; viable = refl; dead = λ w. rw (rw same at ne) (dead w) }
      go (c ∷ front) byte back value more ne parts fits viable dead =
          let same : b ≡ c = cc in
          record {
            front = c ∷ front;
            byte = byte;
            back = back;
            value = value;
            more = more;
            parts = parts;
            fits = (not_zero c (front ++ more) [] value (rw same at ne) (viable ∙ sym (append-nil (decimal value ++ stop ∷ []))), fits);
            viable = viable;
            dead = λ w. rw (rw same at ne) (dead w);
          }

pub positive_reads : (limit stop : ℕ) → 10 ≤ limit → limit ≤ 2 ^ 64 → stop < 48 → Reads (Positive limit) (λ n. decimal n ++ stop ∷ []) (positive_at limit stop)
positive_reads limit stop wide small apart = record {
  takes = positive_takes limit stop wide small apart;
  again = positive_again limit stop wide small apart;
  short = positive_short limit stop wide small apart;
  bad = positive_bad limit stop wide small apart;
}
