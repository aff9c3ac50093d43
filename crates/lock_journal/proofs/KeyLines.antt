-- The line of a key and that of a place are read as what they say.
use Rattle.std.proofs.Common.{◌≡◌, ℕ, suc, ◌+◌, Bool, true, List, [], ◌∷◌, ◌++◌, length, Option, Some, None, refl, sym, ◌∙◌, ap, inl, inr, arith, ◌<◌, ◌^◌, take, cond, eqb, zero, IsTrue, ◌≤◌, Ok, length-append}
use Rattle.std.specs.Prelude.{codes}
use Rattle.std.specs.Fmt.{decimal, digits}
use Rattle.std.specs.List.{AllByRecursion, list_all}
use Rattle.std.proofs.lemmas.Bool.{ne_eqb, and_from}
use Rattle.std.proofs.lemmas.Fmt.{decimal-digits_of, length-decimal-le}
use Rattle.std.proofs.Math.Seq.{take-append_seam}
use Rattle.text_lines.specs.Spelling.{spaced}
use Rattle.text_lines.specs.Reading.{word_at}
use Rattle.text_lines.proofs.Basics.{same_eqb}
use Rattle.text_lines.specs.Limits.{line_limit}
use Rattle.text_lines.specs.LongNumbers.{order_at, number_text, decimal_at}
use Rattle.text_lines.proofs.Numerals.{decimal_fails}
use Rattle.lock_protocol.proofs.Fronts.{spaced_reads}
use Rattle.segment_files.specs.Spelling.{DigestFits, digest_digits, is_digit}
use Rattle.line_replica.specs.Keys.{ToldView}
use Rattle.line_replica.specs.Reading.{heard, Heard, Tagged, Digest, with_key, with_number, tagged_at, on_read, may_follow, place_at, last_number, digest_at, with_digest, is_last_digest, did_at, may_follow_by, kept_text}
use Rattle.line_replica.specs.Running.{place_line}
use Rattle.line_replica.specs.State.{key_line, did_text}
use Rattle.line_replica.proofs.Hearing.{is_tagged, is_untagged, is_digest}
use Rattle.lock_journal.specs.KeysBack.{IsFirst, IsKept}

-- ---- numbers

pub same_text : (n : ℕ) → n < 2 ^ 64 → decimal n ≡ number_text n
unfolding number_text digits
same_text zero lt = refl
same_text (suc n) lt = decimal-digits_of (suc n) (omega arith) lt ∙ sym (rw (ne_eqb (suc n) 0 (λ e. omega (arith, e))) refl)

pub number_reads : (n : ℕ) (rest : List ℕ) → n < 2 ^ 64 → order_at 32 (spaced n ++ rest) ≡ Ok (Some n, rest)
number_reads n rest lt = spaced_reads (spaced n ++ rest) n rest lt (ap (λ (u : List ℕ). (u ++ 32 ∷ []) ++ rest) (same_text n lt))

pub spaced_short : (n : ℕ) → n < 2 ^ 64 → length (spaced n) ≤ 21
spaced_short n lt =
    let few : length (decimal n) ≤ 20 = length-decimal-le 20 n (omega arith) (omega (arith, lt)) lt in
    omega (arith, length-append (decimal n) (32 ∷ []), few)

-- ---- words

pub word_there : (word rest : List ℕ) → word_at word (word ++ rest) ≡ Ok rest
unfolding word_at
word_there [] rest = refl
word_there (c ∷ cs) rest = rw (same_eqb c) (word_there cs rest)

-- ---- the line of a key

pub did_reads : (text : List ℕ) → did_at (codes "did " ++ text) ≡ Some text
unfolding did_at
did_reads text = ap (λ r. on_read {X = Option (List ℕ)} r None Some) (word_there (codes "did ") text)

pub kept_again : (first : List ℕ) → IsFirst first → kept_text (did_text first) ≡ first
kept_again [] f = refl
kept_again (b ∷ []) (inl e) = absurd cc
kept_again (b ∷ []) (inr f) = absurd (f.1 (ap (λ (x : ℕ). x ∷ []) f.0))
kept_again (b ∷ c ∷ bs) f = refl

pub did_follows : (text : List ℕ) → may_follow (codes "did " ++ text) ≡ true
unfolding may_follow
did_follows text = ap (λ (d : Option (List ℕ)). may_follow_by d (codes "did " ++ text)) (did_reads text)

pub key_tagged : (k n : ℕ) (rest : List ℕ) → k < 2 ^ 64 → n < 2 ^ 64 → may_follow rest ≡ true → tagged_at (spaced k ++ (spaced n ++ rest)) ≡ Some (record { key = k; number = n }, rest)
unfolding tagged_at
key_tagged k n rest few small follows =
    ap with_key (number_reads k (spaced n ++ rest) few)
    ∙ ap (with_number k) (number_reads n rest small)
    ∙ ap (λ (b : Bool). cond b (Some (record { key = k; number = n }, rest)) None) follows

-- what is heard of the line of a key
abbrev pub key_heard : ℕ × ToldView → Heard
key_heard e = Tagged (record { key = e.0; number = e.1.number }) (codes "did " ++ did_text e.1.first)

pub hears_key : (e : ℕ × ToldView) → IsKept e → heard (key_line e) ≡ key_heard e
hears_key e kept =
    let rest = codes "did " ++ did_text e.1.first in
    sym (is_tagged (key_line e) rest (record { key = e.0; number = e.1.number }) kept.short (sym (key_tagged e.0 e.1.number rest kept.key kept.number (did_follows (did_text e.1.first)))))

-- ---- the line of a place

no_tag : (rest : List ℕ) → tagged_at (codes "at " ++ rest) ≡ None
unfolding tagged_at order_at decimal_at
no_tag rest = refl

-- a place with a digest after it ends no line
no_place : (place : ℕ) (rest : List ℕ) → place < 2 ^ 64 → place_at (codes "at " ++ (spaced place ++ rest)) ≡ None
unfolding place_at order_at
no_place place rest lt =
    ap (λ r. on_read {X = Option ℕ} r None (λ u. last_number (order_at 10 u))) (word_there (codes "at ") (spaced place ++ rest))
    ∙ ap (λ (u : List ℕ). last_number (order_at 10 ((u ++ 32 ∷ []) ++ rest))) (same_text place lt)
    ∙ rw (decimal_fails 10 (omega arith) place 32 rest (λ e. omega (arith, e)) refl) refl

all_digits : (digest : List ℕ) → AllByRecursion (λ d. IsTrue (is_digit d)) digest → list_all is_digit digest ≡ true
all_digits [] all = refl
all_digits (d ∷ ds) all = and_from (is_digit d) (list_all is_digit ds) all.0 (all_digits ds all.1)

pub first_digits : (digest rest : List ℕ) → length digest ≡ digest_digits → take digest_digits (digest ++ rest) ≡ digest
first_digits digest rest long = ap (λ (n : ℕ). take n (digest ++ rest)) (sym long) ∙ take-append_seam digest rest

ends_in_digest : (digest : List ℕ) → DigestFits digest → is_last_digest (digest ++ 10 ∷ []) ≡ true
ends_in_digest digest fits =
    let long : length (digest ++ 10 ∷ []) ≡ digest_digits + 1 = length-append digest (10 ∷ []) ∙ ap (λ (n : ℕ). n + 1) fits.long in
    and_from _ _ (ap (λ (n : ℕ). eqb n (digest_digits + 1)) long ∙ same_eqb (digest_digits + 1))
    (ap (λ (u : List ℕ). list_all is_digit u) (first_digits digest (10 ∷ []) fits.long) ∙ all_digits digest fits.digits)

reads_digest : (place : ℕ) (digest : List ℕ) → place < 2 ^ 64 → DigestFits digest → digest_at (place_line place digest) ≡ Some (place, digest)
unfolding digest_at
reads_digest place digest lt fits =
    ap (λ r. on_read {X = Option (ℕ × List ℕ)} r None (λ u. with_digest (order_at 32 u))) (word_there (codes "at ") (spaced place ++ (digest ++ 10 ∷ [])))
    ∙ ap with_digest (number_reads place (digest ++ 10 ∷ []) lt)
    ∙ ap (λ (b : Bool). cond b (Some (place, take digest_digits (digest ++ 10 ∷ []))) None) (ends_in_digest digest fits)
    ∙ ap (λ (u : List ℕ). Some (place, u)) (first_digits digest (10 ∷ []) fits.long)

pub place_short : (place : ℕ) (digest : List ℕ) → place < 2 ^ 64 → DigestFits digest → length (place_line place digest) ≤ line_limit
place_short place digest lt fits =
    let long : length digest ≡ 64 = fits.long in
    let a = length-append (codes "at ") (spaced place ++ (digest ++ codes "\n")) in
    let b = length-append (spaced place) (digest ++ codes "\n") in
    let c = length-append digest (codes "\n") in
    omega (arith, spaced_short place lt, long, a, b, c)

pub hears_place : (place : ℕ) (digest : List ℕ) → place < 2 ^ 64 → DigestFits digest → heard (place_line place digest) ≡ Digest place digest
hears_place place digest lt fits =
    let line = place_line place digest in
    sym (is_digest line digest place (sym (no_place place (digest ++ codes "\n") lt)) (sym (reads_digest place digest lt fits)) ∙ is_untagged line (place_short place digest lt fits) (sym (no_tag (spaced place ++ (digest ++ codes "\n")))))
