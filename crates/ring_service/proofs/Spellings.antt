-- A line of numbers, and a name, as they are read of their spellings.
use Rattle.std.proofs.Common.{◌≡◌, ◌≢◌, ℕ, ◌+◌, ◌%◌, ◌<◌, ◌≤◌, eqb, List, [], ◌∷◌, ◌++◌, length, map, Ok, Err, refl, ap, ◌∙◌, append_assoc, arith, inl, inr}
use Rattle.std.specs.List.{AllByRecursion}
use Rattle.std.proofs.lemmas.Bool.{eqb-true, eqb-false, ne_eqb}
use Rattle.text_lines.specs.declared.fault.Fault.TheVariants.{Bad}
use Rattle.text_lines.proofs.Basics.{chosen, ok_is}
use Rattle.text_lines.specs.LongNumbers.{number_text, number_row, in_32_bits, places_at}
use Rattle.text_lines.proofs.Numerals.{by_digits}
use Rattle.text_lines.proofs.Spellings.{Hears, places_take, places_again}
use Rattle.ring_service.specs.Readers.{gaps, machines_at, end_of_line, name_at}

-- a number has no space and no LF
gaps_number : (n : ℕ) (u : List ℕ) → gaps (number_text n ++ u) ≡ gaps u
unfolding gaps
gaps_number n = by_digits (λ m ds. (u : List ℕ) → gaps (ds ++ u) ≡ gaps u) one more n
  where
    digit : (d : ℕ) (u : List ℕ) → 48 ≤ d → gaps (d ∷ u) ≡ gaps u
    digit d u le = rw (ne_eqb d 10 (λ e. omega (arith, e, le)), ne_eqb d 32 (λ e. omega (arith, e, le))) refl

    one : (m : ℕ) → m < 10 → (u : List ℕ) → gaps ((48 + m) ∷ u) ≡ gaps u
    one m lt u = digit (48 + m) u (omega arith)

    more : (m : ℕ) (ds : List ℕ) → 10 ≤ m → ((u : List ℕ) → gaps (ds ++ u) ≡ gaps u) → (u : List ℕ) → gaps ((ds ++ (48 + m % 10) ∷ []) ++ u) ≡ gaps u
    more m ds ge ih u = ap gaps (append_assoc ds ((48 + m % 10) ∷ []) u) ∙ (ih ((48 + m % 10) ∷ u) ∙ digit (48 + m % 10) u (omega arith))

gaps_row : (x : ℕ) (xs rest : List ℕ) → gaps (number_row (x ∷ xs) ++ rest) ≡ length xs
unfolding gaps
gaps_row x [] rest = ap gaps (append_assoc (number_text x) (10 ∷ []) rest) ∙ gaps_number x (10 ∷ rest)
gaps_row x (y ∷ ys) rest =
    ap gaps (append_assoc (number_text x ++ 32 ∷ []) (number_row (y ∷ ys)) rest ∙ append_assoc (number_text x) (32 ∷ []) (number_row (y ∷ ys) ++ rest))
    ∙ (gaps_number x (32 ∷ (number_row (y ∷ ys) ++ rest)) ∙ (ap (λ (g : ℕ). g + 1) (gaps_row y ys rest) ∙ omega arith))

pub machines_hear : Hears (λ xs. map in_32_bits xs) (λ xs. 0 < length xs) number_row machines_at
unfolding machines_at
machines_hear = record { takes = takes; again = again }
  where
    takes : (bytes ms rest : List ℕ) → places_at (gaps bytes + 1) bytes ≡ Ok (ms, rest) → (xs : List ℕ) × (0 < length xs) × (map in_32_bits xs ≡ ms) × (bytes ≡ number_row xs ++ rest)
    takes bytes ms rest e = let p = places_take (gaps bytes + 1) bytes ms rest e in let many = p.1 in (p.0, omega (arith, many), p.2, p.3)

    again : (xs rest : List ℕ) → 0 < length xs → places_at (gaps (number_row xs ++ rest) + 1) (number_row xs ++ rest) ≡ Ok (map in_32_bits xs, rest)
    again [] rest some = absurd (omega (arith, some))
    again (x ∷ xs) rest some =
        let many : gaps (number_row (x ∷ xs) ++ rest) + 1 ≡ length (x ∷ xs) = ap (λ (g : ℕ). g + 1) (gaps_row x xs rest) ∙ omega arith in
        ap (λ (k : ℕ). places_at k (number_row (x ∷ xs) ++ rest)) many ∙ places_again (x ∷ xs) rest

-- ---- a name

abbrev pub IsNameText : List ℕ → Type 0
IsNameText name = AllByRecursion (λ b. b ≢ 10) name

end_takes : (bytes rest : List ℕ) → end_of_line bytes ≡ Ok rest → (name : List ℕ) × IsNameText name × (bytes ≡ (name ++ 10 ∷ []) ++ rest)
unfolding end_of_line
end_takes [] rest e = absurd cc
end_takes (b ∷ bs) rest e =
    elim (chosen (eqb b 10) (Ok bs) (end_of_line bs) (Ok rest) e) [
      | inl h ↦ ([], tt, λ i. eqb-true b 10 h.0 i ∷ ok_is bs rest h.1 i)
      | inr h ↦ let r = end_takes bs rest h.1 in (b ∷ r.0, (eqb-false b 10 h.0, r.1), ap (λ (u : List ℕ). b ∷ u) r.2)
    ]

end_again : (name rest : List ℕ) → IsNameText name → end_of_line ((name ++ 10 ∷ []) ++ rest) ≡ Ok rest
unfolding end_of_line
end_again [] rest f = refl
end_again (b ∷ bs) rest f = rw (ne_eqb b 10 f.0) (end_again bs rest f.1)

pub name_takes : (bytes rest : List ℕ) → name_at bytes ≡ Ok rest → (name : List ℕ) × ((0 < length name) × IsNameText name) × (bytes ≡ (name ++ 10 ∷ []) ++ rest)
unfolding name_at
name_takes [] rest e = absurd cc
name_takes (b ∷ bs) rest e =
    elim (chosen (eqb b 10) (Err (Bad (length bs + 1))) (end_of_line bs) (Ok rest) e) [
      | inl h ↦ absurd cc
      | inr h ↦ let r = end_takes bs rest h.1 in (b ∷ r.0, (omega arith, (eqb-false b 10 h.0, r.1)), ap (λ (u : List ℕ). b ∷ u) r.2)
    ]

pub name_again : (name rest : List ℕ) → (0 < length name) × IsNameText name → name_at ((name ++ 10 ∷ []) ++ rest) ≡ Ok rest
unfolding name_at
name_again [] rest f = absurd (omega (arith, f.0))
name_again (b ∷ bs) rest f = rw (ne_eqb b 10 f.1.0) (end_again bs rest f.1.1)
