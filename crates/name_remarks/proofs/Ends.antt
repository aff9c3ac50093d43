-- The text of a remark ends where its line does.
use Rattle.std.proofs.Common.{◌≡◌, ℕ, suc, ◌+◌, ◌<◌, ◌^◌, ◌%◌, Bool, true, false, not, ◌&&◌, eqb, List, [], ◌∷◌, ◌++◌, length, refl, ap, sym, subst, ◌∙◌, append_assoc, arith}
use Rattle.std.specs.Prelude.{codes, slice_index}
use Rattle.std.specs.Fmt.{decimal}
use Rattle.std.specs.List.{AllByRecursion, list_all}
use Rattle.std.proofs.lemmas.Bool.{false≢true}
use Rattle.text_lines.specs.Spelling.{spaced, ended}
use Rattle.text_lines.proofs.Basics.{same_eqb}
use Rattle.text_lines.proofs.Numerals.{by_digits}
use Rattle.lock_protocol.specs.Names.{is_name_byte, name_ended}
use Rattle.name_remarks.specs.Remarks.{bind, free, top, IsOneLine, RemarksAreLines}
use Rattle.name_remarks.proofs.Spelled.{same_text}

abbrev HasNoEnd : List ℕ → Type 0
HasNoEnd text = AllByRecursion (λ (b : ℕ). ¬ (b ≡ 10)) text

none_in_both : (xs ys : List ℕ) → HasNoEnd xs → HasNoEnd ys → HasNoEnd (xs ++ ys)
none_in_both [] ys p q = q
none_in_both (x ∷ xs) ys p q = (p.0, none_in_both xs ys p.1 q)

none_in_number : (n : ℕ) → n < 2 ^ 64 → HasNoEnd (decimal n)
none_in_number n lt =
    subst (λ (u : List ℕ). HasNoEnd u) (sym (same_text n lt))
    (by_digits (λ m ds. HasNoEnd ds) (λ m low. ((λ e. omega (arith, e)), tt)) (λ m ds ge all. none_in_both ds ((48 + m % 10) ∷ []) all ((λ e. omega (arith, e)), tt)) n)

none_in_spaced : (n : ℕ) → n < 2 ^ 64 → HasNoEnd (spaced n)
none_in_spaced n lt = none_in_both (decimal n) (32 ∷ []) (none_in_number n lt) ((λ e. omega (arith, e)), tt)

none_in_name : (name : List ℕ) → ((i : ℕ) → i < length name → is_name_byte (slice_index name i) ≡ true) → HasNoEnd name
none_in_name [] each = tt
none_in_name (b ∷ bs) each = ((λ e. false≢true (subst (λ (x : ℕ). is_name_byte x ≡ true) e (each 0 (omega arith)))), none_in_name bs (λ i lt. each (suc i) (omega (arith, lt))))

-- a text by a test of its bytes
none_by_test : (text : List ℕ) → list_all (λ b. not (eqb b 10)) text ≡ true → HasNoEnd text
none_by_test [] e = tt
none_by_test (b ∷ bs) e = go (eqb b 10) refl (none_by_test bs) e
  where
    go : (t : Bool) → eqb b 10 ≡ t → (list_all (λ b. not (eqb b 10)) bs ≡ true → HasNoEnd bs) → (not t && list_all (λ b. not (eqb b 10)) bs) ≡ true → HasNoEnd (b ∷ bs)
    go true same rest all = absurd (false≢true all)
    go false other rest all = ((λ e. false≢true (sym other ∙ (ap (λ (x : ℕ). eqb x 10) e ∙ same_eqb 10))), rest all)

-- ---- lines

line_of : (front : List ℕ) → HasNoEnd front → IsOneLine (front ++ 10 ∷ [])
line_of front none = record { front = front; ends = refl; none = none }

line_after : (front text : List ℕ) → HasNoEnd front → IsOneLine text → IsOneLine (front ++ text)
line_after front text none l = record {
  front = front ++ l.front;
  ends = ap (λ (u : List ℕ). front ++ u) l.ends ∙ sym (append_assoc front l.front (10 ∷ []));
  none = none_in_both front l.front none l.none;
}

pub remarks_are_lines : RemarksAreLines
remarks_are_lines (bind ring b) fits =
    let name : IsOneLine (name_ended b.name) = line_of b.name (none_in_name b.name fits.1.1.1.each) in
    let floor : IsOneLine (spaced b.floor ++ name_ended b.name) = line_after (spaced b.floor) (name_ended b.name) (none_in_spaced b.floor fits.1.1.0) name in
    let before : IsOneLine (spaced b.before ++ (spaced b.floor ++ name_ended b.name)) = line_after (spaced b.before) (spaced b.floor ++ name_ended b.name) (none_in_spaced b.before fits.1.0) floor in
    let small : ring < 2 ^ 64 = let lt = fits.0 in omega (arith, lt) in
    line_after (codes "# name ") (spaced ring ++ (spaced b.before ++ (spaced b.floor ++ name_ended b.name))) (none_by_test (codes "# name ") refl)
    (line_after (spaced ring) (spaced b.before ++ (spaced b.floor ++ name_ended b.name)) (none_in_spaced ring small) before)
remarks_are_lines (free ring) fits =
    let small : ring < 2 ^ 64 = omega (arith, fits) in
    line_after (codes "# free ") (ended ring) (none_by_test (codes "# free ") refl) (line_of (decimal ring) (none_in_number ring small))
remarks_are_lines (top grants) fits = line_after (codes "# floor ") (ended grants) (none_by_test (codes "# floor ") refl) (line_of (decimal grants) (none_in_number grants fits))
