-- The first and the last of numbers that do not fall, and the least that is missing between them.
use Rattle.std.proofs.Common.{◌≡◌, ℕ, zero, suc, ◌+◌, ◌-◌, ◌<◌, ◌≤◌, List, [], ◌∷◌, length, take, min, get_or, Bool, true, false, refl, sym, ap, subst, ◌∙◌, arith, eqb, eq-eqb, eqb-true, ◌⊎◌, inl, inr}
use Rattle.std.specs.List.{All, Any, list_any}
use Rattle.std.specs.List.Sorted.{IsNonDecreasing}
use Rattle.std.proofs.lemmas.Bool.{cases_lt, false_from_ne_true, false≢true}
use Rattle.std.proofs.lemmas.List.{get_or_default, take_all}
use Rattle.std.proofs.lemmas.List.Folds.{list_any_at, Any-from_list_any}
use Rattle.line_service.specs.SegmentNames.{IsNumber}
use Rattle.line_service.specs.SegmentNumbers.{has_number, AreFrom, IsGap}

-- a number that is there is at some place
pub record IsAt (numbers : List ℕ) (n : ℕ) : Type 0 where
  pub place : ℕ
  pub within : place < length numbers
  pub is : get_or numbers place 0 ≡ n

pub at_place : (numbers : List ℕ) (n : ℕ) → has_number numbers n ≡ true → IsAt numbers n
at_place numbers n there =
    let found = Any-from_list_any (λ m. eqb m n) numbers there in
    record {
      place = found.0;
      within = found.2;
      is = get_or_default numbers found.0 0 found.1 found.2 ∙ found.3 ∙ eqb-true found.1 n found.4;
    }

pub there_at : (numbers : List ℕ) (i n : ℕ) → i < length numbers → get_or numbers i 0 ≡ n → has_number numbers n ≡ true
there_at numbers i n within is = list_any_at (λ m. eqb m n) numbers i 0 within (eq-eqb (get_or numbers i 0) n is)

module _ (numbers : List ℕ) (sorted : IsNonDecreasing numbers) (each : All IsNumber numbers) (first last : ℕ) (i : ℕ) (begins : first ≡ get_or numbers 0 0) (ends : last ≡ get_or numbers (i - 1) 0)
    (there : (n : ℕ) → first ≤ n → n ≤ last → has_number numbers n ≡ true) where
  least : (m : ℕ) → has_number numbers m ≡ true → first ≤ m
  least m h =
      let p = at_place numbers m h in
      let up = sorted 0 p.place 0 (omega arith) p.within in
      omega (arith, p.is)

  -- one number more leaves none out
  pub more_there : (n : ℕ) → i < length numbers → get_or numbers i 0 - last ≤ 1 → first ≤ n → n ≤ get_or numbers i 0 → has_number numbers n ≡ true
  more_there n within next from to = elim (cases_lt last n) [
    | inl h ↦ there_at numbers i n within (omega arith)
    | inr h ↦ there n from h
  ]

  pub gap : i < length numbers → last < get_or numbers i 0 → 1 < get_or numbers i 0 - last → IsGap (has_number numbers) (last + 1)
  gap within more far =
      let starts = each 0 0 (omega arith) in
      let stops = each i 0 within in
      let up = sorted 0 (i - 1) 0 (omega arith) (omega arith) in
      record {
        first = first;
        before = (omega (arith, starts.0), omega arith);
        least = λ m is h. least m h;
        there = λ m from to. there m from (omega arith);
        missing = false_from_ne_true (has_number numbers (last + 1)) (λ h. no_number h);
        last = get_or numbers i 0;
        after = (omega arith, stops);
        last_there = there_at numbers i (get_or numbers i 0) within refl;
      }
    where
      no_number : has_number numbers (last + 1) ≡ true → ⊥
      no_number h =
          let p = at_place numbers (last + 1) h in
          elim (cases_lt p.place i) [
            | inl before ↦ let up = sorted p.place (i - 1) 0 (omega arith) (omega arith) in omega (arith, p.is)
            | inr behind ↦ let up = sorted i p.place 0 behind p.within in omega (arith, p.is)
          ]

  pub all : length numbers ≤ i → 0 < length numbers → i ≤ length numbers → AreFrom (has_number numbers) first last
  all past some within =
      let starts = each 0 0 some in
      let stops = each (i - 1) 0 (omega arith) in
      let up = sorted 0 (i - 1) 0 (omega arith) (omega arith) in
      record {
        up = omega arith;
        bounds = (subst IsNumber (sym begins) starts, subst IsNumber (sym ends) stops);
        there = there;
        only = λ n is h. (least n h, most n h);
      }
    where
      most : (n : ℕ) → has_number numbers n ≡ true → n ≤ last
      most n h =
          let p = at_place numbers n h in
          let up = sorted p.place (i - 1) 0 (omega (arith, p.within)) (omega arith) in
          omega (arith, p.is)

-- the first of some bytes, which are all of them if there are no more
pub first_bytes : (bytes name : List ℕ) (i n : ℕ) → take i bytes ≡ take i name → n ≤ i → i ≤ n → n ≡ min (length name) 255 → take n bytes ≡ take 255 name
first_bytes bytes name i n same from to is =
    let at : i ≡ n = omega arith in
    ap (λ k. take k bytes) (sym at) ∙ same ∙ ap (λ k. take k name) (at ∙ is) ∙ elim (cases_lt (length name) 255) [
      | inl h ↦ take_all (min (length name) 255) name (omega arith) ∙ sym (take_all 255 name (omega arith))
      | inr h ↦ let e : min (length name) 255 ≡ 255 = omega arith in ap (λ k. take k name) e
    ]

-- a number that is not 0
pub some : (n : ℕ) → false ≡ eqb n 0 → 0 < n
some zero e = absurd (false≢true e)
some (suc n) e = omega arith
