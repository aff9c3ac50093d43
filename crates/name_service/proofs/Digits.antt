-- The bytes of decimals: no # and no LF, so the number of a ring is a name.
use Rattle.std.proofs.Common.{◌≡◌, ◌≢◌, ℕ, zero, suc, ◌+◌, ◌-◌, ◌/◌, ◌%◌, ◌^◌, ◌<◌, ◌≤◌, Bool, true, false, eqb, List, [], ◌∷◌, length, Option, Some, inl, inr, refl, sym, ap, subst, ◌∙◌, arith}
use Rattle.std.specs.Prelude.{◌==◌, ◌||◌, slice_index, if◌then◌else◌, option_map}
use Rattle.std.specs.Fmt.{decimal, digits, digits_onto, digit_glyph}
use Rattle.std.specs.List.{AllByRecursion, list_any}
use Rattle.std.specs.Str.{bytes_eq}
use Rattle.std.proofs.lemmas.Bool.{ne_eqb, lt-ltb, cases_Bool, cases_eq}
use Rattle.std.proofs.lemmas.Fmt.{decimal_nonempty, decimal_injective, length-decimal-le}
use Rattle.journal.specs.Recovery.{has_line_end}
use Rattle.segment_files.proofs.Remarked.{HasNoHash}
use Rattle.lock_protocol.specs.Names.{IsName, is_name_byte, lock_named}
use Rattle.lock_names.proofs.Found.{same_name, own_name}
use Rattle.name_service.specs.RingLines.{numbers_from}

-- ---- digits

abbrev pub IsDigit : ℕ → Type 0
IsDigit b = (48 ≤ b) × (b ≤ 57)

abbrev pub AreDigits : List ℕ → Type 0
AreDigits ds = AllByRecursion IsDigit ds

glyph_is : (d : ℕ) → d < 10 → digit_glyph false d ≡ 48 + d
glyph_is d lt = ap (λ (q : Bool). if q then 48 + d else 87 + d) (lt-ltb d 10 lt)

glyph : (n : ℕ) → IsDigit (digit_glyph false (n % 10))
glyph n = let small : n % 10 < 10 = omega arith in subst (λ (b : ℕ). IsDigit b) (sym (glyph_is (n % 10) small)) (omega arith, omega arith)

either : (q : Bool) (xs ys : List ℕ) → AreDigits xs → AreDigits ys → AreDigits (if q then xs else ys)
either true xs ys a b = a
either false xs ys a b = b

onto : (k n : ℕ) (acc : List ℕ) → AreDigits acc → AreDigits (digits_onto k 10 false n acc)
onto zero n acc a = a
onto (suc k) n acc a =
    let more : AreDigits (digit_glyph false (n % 10) ∷ acc) = (glyph n, a) in
    either (n / 10 == 0) (digit_glyph false (n % 10) ∷ acc) (digits_onto k 10 false (n / 10) (digit_glyph false (n % 10) ∷ acc)) more (onto k (n / 10) (digit_glyph false (n % 10) ∷ acc) more)

pub decimal_digits : (n : ℕ) → AreDigits (decimal n)
unfolding digits
decimal_digits n = onto 64 n [] tt

-- ---- what they are not

pub no_hash_digits : (ds : List ℕ) → AreDigits ds → HasNoHash ds
no_hash_digits ds a = record { none = go ds a }
  where
    both : (x y : Bool) → x ≡ false → y ≡ false → (x || y) ≡ false
    both true y e f = absurd cc
    both false y e f = f

    go : (ds : List ℕ) → AreDigits ds → list_any (λ b. eqb b 35) ds ≡ false
    go [] a = refl
    go (d ∷ ds) a = both (eqb d 35) (list_any (λ b. eqb b 35) ds) (ne_eqb d 35 (λ e. omega (arith, e, a.0.0))) (go ds a.1)

pub no_end_digits : (ds : List ℕ) → AreDigits ds → has_line_end ds ≡ false
no_end_digits [] a = refl
no_end_digits (d ∷ ds) a = both (d == 10) (has_line_end ds) (ne_eqb d 10 (λ e. omega (arith, e, a.0.0))) (no_end_digits ds a.1)
  where
    both : (x y : Bool) → x ≡ false → y ≡ false → (x || y) ≡ false
    both true y e f = absurd cc
    both false y e f = f

-- ---- the number of a ring is a name

name_digit : (d : ℕ) → d < 10 → is_name_byte (48 + d) ≡ true
name_digit zero lt = refl
name_digit (suc zero) lt = refl
name_digit (suc (suc zero)) lt = refl
name_digit (suc (suc (suc zero))) lt = refl
name_digit (suc (suc (suc (suc zero)))) lt = refl
name_digit (suc (suc (suc (suc (suc zero))))) lt = refl
name_digit (suc (suc (suc (suc (suc (suc zero)))))) lt = refl
name_digit (suc (suc (suc (suc (suc (suc (suc zero))))))) lt = refl
name_digit (suc (suc (suc (suc (suc (suc (suc (suc zero)))))))) lt = refl
name_digit (suc (suc (suc (suc (suc (suc (suc (suc (suc zero))))))))) lt = refl
name_digit (suc (suc (suc (suc (suc (suc (suc (suc (suc (suc d)))))))))) lt = absurd (omega (arith, lt))

name_byte : (b : ℕ) → IsDigit b → is_name_byte b ≡ true
name_byte b d =
    let low : 48 ≤ b = d.0 in
    let high : b ≤ 57 = d.1 in
    let is : 48 + (b - 48) ≡ b = omega arith in
    subst (λ (x : ℕ). is_name_byte x ≡ true) is (name_digit (b - 48) (omega arith))

digit_at : (ds : List ℕ) (i : ℕ) → AreDigits ds → i < length ds → IsDigit (slice_index ds i)
digit_at [] i a lt = absurd (omega (arith, lt))
digit_at (d ∷ ds) zero a lt = a.0
digit_at (d ∷ ds) (suc i) a lt = digit_at ds i a.1 (omega (arith, lt))

pub number_short : (n : ℕ) → n < 2 ^ 64 → length (decimal n) ≤ 20
number_short n lt = length-decimal-le 20 n (omega arith) (omega (arith, lt)) lt

pub number_is_name : (n : ℕ) → n < 2 ^ 64 → IsName (decimal n)
number_is_name n lt =
    let few : length (decimal n) ≤ 20 = number_short n lt in
    record {
      some = decimal_nonempty n lt;
      most = omega (arith, few);
      each = λ i at. name_byte (slice_index (decimal n) i) (digit_at (decimal n) i (decimal_digits n) at);
    }

-- ---- a ring is found by its number

apart : (m n : ℕ) → m < 2 ^ 64 → n < 2 ^ 64 → m ≢ n → bytes_eq (decimal m) (decimal n) ≡ false
apart m n p q ne = elim (cases_Bool (bytes_eq (decimal m) (decimal n))) [
  | inl e ↦ absurd (ne (decimal_injective m n p q (same_name (decimal m) (decimal n) e)))
  | inr e ↦ e
]

found_from : (at n ring : ℕ) → at + n < 2 ^ 64 → at ≤ ring → ring < at + n → lock_named (numbers_from at n) (decimal ring) ≡ Some (ring - at)
found_from at zero ring fits le lt = absurd (omega (arith, le, lt))
found_from at (suc n) ring fits le lt = elim (cases_eq ring at) [
  | inl e ↦
      let first : bytes_eq (decimal ring) (decimal at) ≡ true = own_name (decimal ring) (decimal at) (ap (λ (k : ℕ). decimal k) e) in
      let none : 0 ≡ ring - at = omega (arith, e) in
      ap (λ (q : Bool). if q then Some 0 else option_map suc (lock_named (numbers_from (suc at) n) (decimal ring))) first ∙ ap (λ (k : ℕ). Some k) none
  | inr ne ↦
      let other : bytes_eq (decimal ring) (decimal at) ≡ false = apart ring at (omega (arith, fits, lt)) (omega (arith, fits)) ne in
      let rest : lock_named (numbers_from (suc at) n) (decimal ring) ≡ Some (ring - suc at) = found_from (suc at) n ring (omega (arith, fits)) (omega (arith, le, ne)) (omega (arith, lt)) in
      let one : suc (ring - suc at) ≡ ring - at = omega (arith, le, ne) in
      ap (λ (q : Bool). if q then Some 0 else option_map suc (lock_named (numbers_from (suc at) n) (decimal ring))) other
      ∙ ap (λ (o : Option ℕ). option_map suc o) rest
      ∙ ap (λ (k : ℕ). Some k) one
]

pub ring_found : (n ring : ℕ) → n < 2 ^ 64 → ring < n → lock_named (numbers_from 0 n) (decimal ring) ≡ Some ring
ring_found n ring fits lt =
    let same : ring - 0 ≡ ring = omega arith in
    found_from 0 n ring (omega (arith, fits)) (omega arith) (omega (arith, lt)) ∙ ap (λ (k : ℕ). Some k) same
