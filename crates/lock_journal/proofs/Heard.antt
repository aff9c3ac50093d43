-- What is heard of a line says how the line is spelled.
use Rattle.std.proofs.Common.{◌≡◌, ℕ, ◌+◌, Bool, true, false, List, [], ◌∷◌, ◌++◌, length, Option, Some, None, refl, sym, ◌∙◌, ap, arith, ◌<◌, ◌^◌, take, cond, eqb, IsTrue, ◌≤◌, ltb, Result, Ok, Err}
use Rattle.std.specs.Prelude.{codes}
use Rattle.std.specs.List.{AllByRecursion, list_all}
use Rattle.std.proofs.lemmas.Bool.{ltb-false, eqb-true, and_parts}
use Rattle.std.proofs.lemmas.List.{length-take-le}
use Rattle.text_lines.specs.declared.fault.Fault.{Fault}
use Rattle.text_lines.specs.Spelling.{spaced}
use Rattle.text_lines.specs.Reading.{word_at}
use Rattle.text_lines.specs.Limits.{line_limit}
use Rattle.text_lines.specs.LongNumbers.{order_at}
use Rattle.lock_protocol.proofs.Fronts.{spaced_some, ended_some}
use Rattle.segment_files.specs.Spelling.{DigestFits, digest_digits, is_digit}
use Rattle.line_replica.specs.Reading.{Place, heard, Heard, Tagged, Digest, Plain, of_tagged, of_place, of_digest, with_key, with_number, tagged_at, on_read, may_follow, place_at, last_number, digest_at, with_digest, is_last_digest}
use Rattle.lock_journal.proofs.KeyLines.{same_text}

-- a line of this key and number, with this after them
pub record IsOfKey (key number : ℕ) (rest line : List ℕ) : Type 0 where
  pub key_small : key < 2 ^ 64
  pub number_small : number < 2 ^ 64
  pub short : length line ≤ line_limit
  pub is : line ≡ spaced key ++ (spaced number ++ rest)

abbrev pub IsReadSo : List ℕ → Heard → Type 0
IsReadSo line (Tagged tag rest) = IsOfKey tag.key tag.number rest line
IsReadSo line (Place place) = place < 2 ^ 64
IsReadSo line (Digest place digest) = (place < 2 ^ 64) × DigestFits digest
IsReadSo line Plain = Unit {0}

spelled : (bytes : List ℕ) (n : ℕ) (rest : List ℕ) → order_at 32 bytes ≡ Ok (Some n, rest) → (n < 2 ^ 64) × (bytes ≡ spaced n ++ rest)
spelled bytes n rest e =
    let s = spaced_some bytes n rest e in
    (s.0, s.1 ∙ ap (λ (u : List ℕ). (u ++ 32 ∷ []) ++ rest) (sym (same_text n s.0)))

-- ---- a digest

each_digit : (ds : List ℕ) → list_all is_digit ds ≡ true → AllByRecursion (λ d. IsTrue (is_digit d)) ds
each_digit [] e = tt
each_digit (d ∷ ds) e = let p = and_parts (is_digit d) (list_all is_digit ds) e in (p.0, each_digit ds p.1)

fits : (rest : List ℕ) → is_last_digest rest ≡ true → DigestFits (take digest_digits rest)
fits rest e =
    let p = and_parts (eqb (length rest) (digest_digits + 1)) (list_all is_digit (take digest_digits rest)) e in
    let long : length rest ≡ 65 = eqb-true (length rest) 65 p.0 in
    record { long = length-take-le digest_digits rest (omega (arith, long)); digits = each_digit (take digest_digits rest) p.1 }

module _ (line : List ℕ) where
  by_digits : (place : ℕ) (rest : List ℕ) → place < 2 ^ 64 → (b : Bool) → is_last_digest rest ≡ b → IsReadSo line (of_digest (cond b (Some (place, take digest_digits rest)) None))
  by_digits place rest lt true e = (lt, fits rest e)
  by_digits place rest lt false e = tt

  with_place : (rest : List ℕ) (r : Result (Option ℕ × List ℕ) Fault) → order_at 32 rest ≡ r → IsReadSo line (of_digest (with_digest r))
  with_place rest (Ok (Some place, more)) e = by_digits place more (spelled rest place more e).0 (is_last_digest more) refl
  with_place rest (Ok (None, more)) e = tt
  with_place rest (Err f) e = tt

  by_word : (r : Result (List ℕ) Fault) → IsReadSo line (of_digest (on_read r None (λ rest. with_digest (order_at 32 rest))))
  by_word (Ok rest) = with_place rest (order_at 32 rest) refl
  by_word (Err f) = tt

  by_digest : IsReadSo line (of_digest (digest_at line))
  unfolding digest_at
  by_digest = by_word (word_at (codes "at ") line)

  -- ---- a place

  last : (rest : List ℕ) (r : Result (Option ℕ × List ℕ) Fault) → order_at 10 rest ≡ r → IsReadSo line (of_place (last_number r) line)
  last rest (Ok (Some place, [])) e = (ended_some rest place [] e).0
  last rest (Ok (None, [])) e = by_digest
  last rest (Ok (number, b ∷ bs)) e = by_digest
  last rest (Err f) e = by_digest

  of_word : (r : Result (List ℕ) Fault) → IsReadSo line (of_place (on_read r None (λ rest. last_number (order_at 10 rest))) line)
  of_word (Ok rest) = last rest (order_at 10 rest) refl
  of_word (Err f) = by_digest

  by_place : IsReadSo line (of_place (place_at line) line)
  unfolding place_at
  by_place = of_word (word_at (codes "at ") line)

  -- ---- a key and a number

  module _ (short : length line ≤ line_limit) where
    by_more : (key number : ℕ) (rest more : List ℕ) → order_at 32 line ≡ Ok (Some key, rest) → order_at 32 rest ≡ Ok (Some number, more) → (b : Bool) → IsReadSo line (of_tagged (cond b (Some (record { key = key; number = number }, more)) None) line)
    by_more key number rest more e f true =
        let k = spelled line key rest e in
        let n = spelled rest number more f in
        record { key_small = k.0; number_small = n.0; short = short; is = k.1 ∙ ap (λ (u : List ℕ). spaced key ++ u) n.1 }
    by_more key number rest more e f false = by_place

    by_number : (key : ℕ) (rest : List ℕ) → order_at 32 line ≡ Ok (Some key, rest) → (r : Result (Option ℕ × List ℕ) Fault) → order_at 32 rest ≡ r → IsReadSo line (of_tagged (with_number key r) line)
    by_number key rest e (Ok (Some number, more)) f = by_more key number rest more e f (may_follow more)
    by_number key rest e (Ok (None, more)) f = by_place
    by_number key rest e (Err g) f = by_place

    by_key : (r : Result (Option ℕ × List ℕ) Fault) → order_at 32 line ≡ r → IsReadSo line (of_tagged (with_key r) line)
    by_key (Ok (Some key, rest)) e = by_number key rest e (order_at 32 rest) refl
    by_key (Ok (None, rest)) e = by_place
    by_key (Err f) e = by_place

    by_tag : IsReadSo line (of_tagged (tagged_at line) line)
    unfolding tagged_at
    by_tag = by_key (order_at 32 line) refl

  by_length : (b : Bool) → ltb line_limit (length line) ≡ b → IsReadSo line (cond b Plain (of_tagged (tagged_at line) line))
  by_length true e = tt
  by_length false e = by_tag (ltb-false line_limit (length line) e)

  pub read_so : IsReadSo line (heard line)
  unfolding heard
  read_so = by_length (ltb line_limit (length line)) refl
