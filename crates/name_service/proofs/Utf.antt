-- The bytes of a name are ASCII, and so a text.
use Rattle.std.proofs.Common.{◌≡◌, ℕ, zero, suc, ◌<◌, ◌≤◌, Bool, true, false, ◌||◌, List, [], ◌∷◌, length, inl, inr, arith}
use Rattle.std.specs.Prelude.{◌&&◌, ◌==◌, nat_le, slice_index}
use Rattle.std.specs.Char.{is_ascii_alphanumeric}
use Rattle.std.specs.Int.{is_in_range}
use Rattle.std.specs.Str.{IsAscii, IsUtf8}
use Rattle.std.proofs.lemmas.Bool.{false≢true, or_cases, leb-true, eqb-true}
use Rattle.std.proofs.lemmas.Str.{IsUtf8-from_ascii}
use Rattle.std.proofs.lemmas.Str.Ascii.{IsAscii-nil}
use Rattle.lock_protocol.specs.Names.{is_name_byte, IsName}

second : (a b : Bool) → (a && b) ≡ true → b ≡ true
second true b e = e
second false b e = absurd (false≢true e)

most : (lo hi c : ℕ) → is_in_range lo hi c ≡ true → c ≤ hi
most lo hi c e = leb-true c hi (second (nat_le lo c) (nat_le c hi) e)

letter : (b : ℕ) → is_ascii_alphanumeric b ≡ true → b < 128
letter b e = elim (or_cases (is_in_range 48 57 b || is_in_range 65 90 b) (is_in_range 97 122 b) e) [
  | inl f ↦ elim (or_cases (is_in_range 48 57 b) (is_in_range 65 90 b) f) [
    | inl g ↦ let le = most 48 57 b g in omega (arith, le)
    | inr g ↦ let le = most 65 90 b g in omega (arith, le)
  ]
  | inr f ↦ let le = most 97 122 b f in omega (arith, le)
]

mark : (b : ℕ) → ((b == 46) || ((b == 95) || ((b == 45) || (b == 47)))) ≡ true → b < 128
mark b e = elim (or_cases (b == 46) ((b == 95) || ((b == 45) || (b == 47))) e) [
  | inl f ↦ let is = eqb-true b 46 f in omega (arith, is)
  | inr f ↦ elim (or_cases (b == 95) ((b == 45) || (b == 47)) f) [
    | inl g ↦ let is = eqb-true b 95 g in omega (arith, is)
    | inr g ↦ elim (or_cases (b == 45) (b == 47) g) [
      | inl h ↦ let is = eqb-true b 45 h in omega (arith, is)
      | inr h ↦ let is = eqb-true b 47 h in omega (arith, is)
    ]
  ]
]

below : (b : ℕ) → is_name_byte b ≡ true → b < 128
below b e = elim (or_cases (is_ascii_alphanumeric b) ((b == 46) || ((b == 95) || ((b == 45) || (b == 47)))) e) [
  | inl f ↦ letter b f
  | inr f ↦ mark b f
]

ascii : (name : List ℕ) → ((i : ℕ) → i < length name → is_name_byte (slice_index name i) ≡ true) → IsAscii name
ascii [] each i = IsAscii-nil i
ascii (b ∷ bs) each zero = below b (each 0 (omega arith))
ascii (b ∷ bs) each (suc i) = ascii bs (λ j lt. each (suc j) (omega (arith, lt))) i

pub name_is_text : (name : List ℕ) → IsName name → IsUtf8 name
name_is_text name n = IsUtf8-from_ascii name (ascii name n.each)
