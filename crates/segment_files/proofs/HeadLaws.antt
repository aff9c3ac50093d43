-- A segment's head is read just as it is spelled, and a refusal of it is right.
use Rattle.std.proofs.Common.{◌≡◌, ℕ, suc, ◌^◌, IsTrue, List, [], ◌∷◌, ◌++◌, length, Result, Ok, Err, refl, sym, ap, subst, ◌∙◌, append_assoc, arith, inl, inr}
use Rattle.std.specs.Prelude.{codes}
use Rattle.std.specs.List.{flat_map}
use Rattle.text_lines.specs.declared.fault.Fault.{Fault}
use Rattle.text_lines.specs.declared.fault.Fault.TheVariants.{Short, Bad}
use Rattle.text_lines.specs.declared.fault.Stop.{Stop}
use Rattle.text_lines.specs.declared.fault.Stop.TheVariants as stops
use Rattle.text_lines.specs.Reading.{Reader, ◌>>=◌, Fails, end_at, whole_at, number_at, positive_at}
use Rattle.text_lines.specs.Spelling.{spaced, ended, Below, Positive}
use Rattle.text_lines.specs.Grammar.{Reads, ShortOf, BadAt}
use Rattle.text_lines.specs.Texts.{IsRightAnswer, refusal_of}
use Rattle.text_lines.proofs.Basics.{chosen, ok_is}
use Rattle.text_lines.proofs.Sequences.{both_reads, then_reads, as_reads, after_reads, nothing_reads, said_reads}
use Rattle.text_lines.proofs.Decimals.{number_reads, positive_reads}
use Rattle.text_lines.proofs.Answering.{answer_is_right}
use Rattle.ring_model.specs.declared.bases.Base.{Base}
use Rattle.segment_files.specs.Spelling.{Head, digest_digits, is_digit, behind_line, base_line, head_text, BaseFits, DigestFits, HeadFits}
use Rattle.segment_files.specs.Reading.{digit_at, repeat_at, digits_at, behind_at, base_from, large, base_at, Parts, head_from, head_at}
use Rattle.segment_files.specs.Meaning.{BeginsNoHead, IsRightHead}
use Rattle.segment_files.proofs.Repeated.{RepeatFits, repeat_reads}

-- ---- a digit

abbrev DigitFits : ℕ → Type 0
DigitFits d = IsTrue (is_digit d)

abbrev digit_text : ℕ → List ℕ
digit_text d = d ∷ []

digit_takes : (bytes : List ℕ) (d : ℕ) (rest : List ℕ) → digit_at bytes ≡ Ok (d, rest) → DigitFits d × (bytes ≡ digit_text d ++ rest)
unfolding digit_at
digit_takes [] d rest e = absurd cc
digit_takes (b ∷ bs) d rest e =
    elim (chosen (is_digit b) (Ok (b, bs)) (Err (Bad (suc (length bs)))) (Ok (d, rest)) e) [
      | inl h ↦ let p = ok_is (b, bs) (d, rest) h.1 in subst (λ (z : ℕ × List ℕ). DigitFits z.0 × (b ∷ bs ≡ digit_text z.0 ++ z.1)) p (h.0, refl)
      | inr h ↦ absurd cc
    ]

digit_again : (d : ℕ) (rest : List ℕ) → DigitFits d → digit_at (digit_text d ++ rest) ≡ Ok (d, rest)
unfolding digit_at
digit_again d rest f = rw f refl

digit_short : (bytes : List ℕ) → digit_at bytes ≡ Err Short → ShortOf DigitFits digit_text bytes
unfolding digit_at
digit_short [] e = record { value = 48; more = 48 ∷ []; fits = refl; viable = refl }
digit_short (b ∷ bs) e =
    elim (chosen (is_digit b) (Ok (b, bs)) (Err (Bad (suc (length bs)))) (Err Short) e) [ inl h ↦ absurd cc | inr h ↦ absurd cc ]

digit_bad : (bytes : List ℕ) (left : ℕ) → digit_at bytes ≡ Err (Bad left) → BadAt DigitFits digit_text digit_at bytes
unfolding digit_at
digit_bad [] left e = absurd cc
digit_bad (b ∷ bs) left e =
    elim (chosen (is_digit b) (Ok (b, bs)) (Err (Bad (suc (length bs)))) (Err (Bad left)) e) [
      | inl h ↦ absurd cc
      | inr h ↦ record { front = []; byte = b; back = bs; value = 48; more = 48 ∷ []; parts = refl; fits = refl; viable = refl; dead = λ w. rw h.0 refl }
    ]

digit_reads : Reads DigitFits digit_text digit_at
digit_reads = record { takes = digit_takes; again = digit_again; short = digit_short; bad = digit_bad }

-- ---- the digits of a digest

each_digit : (xs : List ℕ) → xs ≡ flat_map digit_text xs
each_digit [] = refl
each_digit (x ∷ xs) = ap (λ (u : List ℕ). x ∷ u) (each_digit xs)

abbrev same_text : List ℕ → List ℕ
same_text xs = xs

digits_reads : Reads DigestFits same_text digits_at
unfolding digits_at
digits_reads = said_reads DigestFits same_text (λ xs f. record { long = f.0; digits = f.1 }) (λ xs f. (f.long, f.digits)) (λ xs f. each_digit xs) (repeat_reads digit_reads 48 digest_digits)

abbrev LineFits : List ℕ × Unit {0} → Type 0
LineFits p = DigestFits p.0 × Unit {0}

behind_reads : Reads DigestFits behind_line behind_at
unfolding behind_at
behind_reads = after_reads (codes "behind ") (as_reads DigestFits (λ xs. xs ++ 10 ∷ []) (λ (p : List ℕ × Unit {0}). p.0) (λ xs. (xs, tt)) (both_reads digits_reads (after_reads (codes "\n") nothing_reads)) (λ p f. f.0) (λ xs f. (f, tt)) (λ xs f. refl) (λ p f. refl))

-- ---- a base

abbrev Large : ℕ → Type 0
Large = Below (2 ^ 64)

large_reads : Reads Large spaced large
large_reads = number_reads (2 ^ 64) 32 (omega arith) (omega arith) (omega arith)

last_large_reads : Reads Large ended (number_at (2 ^ 64) 10)
last_large_reads = number_reads (2 ^ 64) 10 (omega arith) (omega arith) (omega arith)

base_reads : Reads BaseFits base_line base_at
unfolding base_at
base_reads = as_reads BaseFits base_line base_from (λ b. (b.events, (b.grants, (b.amount, b.calm))))
    (after_reads (codes "base ") (both_reads large_reads (both_reads large_reads (both_reads large_reads last_large_reads))))
    (λ a f. record { events = f.0; grants = f.1.0; amount = f.1.1.0; calm = f.1.1.1 }) (λ b f. (f.events, (f.grants, (f.amount, f.calm)))) (λ b f. refl) (λ a f. refl)

abbrev no_base_at_all : Base
no_base_at_all = record { events = 0; grants = 0; amount = 0; calm = 0 }

bases_reads : (n : ℕ) → Reads (RepeatFits BaseFits n) (flat_map base_line) (repeat_at base_at n)
bases_reads n = repeat_reads base_reads no_base_at_all n

-- ---- the head

positive64_reads : Reads (Positive (2 ^ 64)) spaced (positive_at (2 ^ 64) 32)
positive64_reads = positive_reads (2 ^ 64) 32 (omega arith) (omega arith) (omega arith)

positive32_reads : Reads (Positive (2 ^ 32)) ended (positive_at (2 ^ 32) 10)
positive32_reads = positive_reads (2 ^ 32) 10 (omega arith) (omega arith) (omega arith)

abbrev PartsFit : Parts → Type 0
PartsFit p = Positive (2 ^ 64) p.0 × (Positive (2 ^ 32) p.1.0 × (DigestFits p.1.1.0 × RepeatFits BaseFits p.1.0 p.1.1.1))

abbrev parts_text : Parts → List ℕ
parts_text p = codes "ringsegment 1 " ++ (spaced p.0 ++ (ended p.1.0 ++ (behind_line p.1.1.0 ++ flat_map base_line p.1.1.1)))

abbrev parts_of : Head → Parts
parts_of h = (h.number, (length h.bases, (h.behind, h.bases)))

pub head_reads : Reads HeadFits head_text head_at
unfolding head_at
head_reads = as_reads HeadFits head_text head_from parts_of
    (after_reads (codes "ringsegment 1 ") (both_reads positive64_reads (then_reads positive32_reads (λ n f. both_reads behind_reads (bases_reads n)))))
    fits fits_back (λ h f. refl) spelled
  where
    fits : (p : Parts) → PartsFit p → HeadFits (head_from p)
    fits p f =
        let many = f.1.1.1.0 in
        let rings = f.1.0 in
        record { first = f.0.0; number = f.0.1; behind = f.1.1.0; some = omega (arith, many, rings.0); rings = omega (arith, many, rings.1); bases = f.1.1.1.1 }

    fits_back : (h : Head) → HeadFits h → PartsFit (parts_of h)
    fits_back h f = ((f.first, f.number), ((f.some, f.rings), (f.behind, (refl, f.bases))))

    spelled : (p : Parts) → PartsFit p → head_text (head_from p) ≡ parts_text p
    spelled p f =
        let others : List ℕ = behind_line p.1.1.0 ++ flat_map base_line p.1.1.1 in
        ap (λ (u : List ℕ). codes "ringsegment 1 " ++ u)
        (append_assoc (spaced p.0) (ended (length p.1.1.1)) others ∙ ap (λ (n : ℕ). spaced p.0 ++ (ended n ++ others)) f.1.1.1.0)

-- ---- a refusal

whole_fault : {A : Type 0} (at : Reader A) (bytes : List ℕ) (d : Fault) → at bytes ≡ Err d → whole_at at bytes ≡ Err d
unfolding whole_at
whole_fault {A} at bytes d k = ap (λ (r : Result (A × List ℕ) Fault). r >>= λ x. end_at x.1 >>= λ _. Ok x.0) k

abbrev IsRead : Result (Head × List ℕ) Fault → Type 0
IsRead (Ok x) = Unit {0}
IsRead (Err d) = ⊥

no_head : (bytes : List ℕ) (d : Fault) → head_at bytes ≡ Err d → BeginsNoHead bytes
no_head bytes d k h rest f e = subst IsRead k (subst IsRead (sym (ap head_at e ∙ head_reads.again h rest f)) tt)

module _ {X : Type 0} (view : X → Head × List ℕ) (bytes : List ℕ) where
  pub head_is_right : (x : X) → head_at bytes ≡ Ok (view x) → IsRightHead view bytes (Ok x)
  head_is_right x e = head_reads.takes bytes (view x).0 (view x).1 e

  as_head : (d : Fault) → BeginsNoHead bytes → IsRightAnswer {X = Head} (λ x. x) HeadFits head_text bytes (Err (refusal_of bytes (stops.Fault d))) → IsRightHead view bytes (Err (refusal_of bytes (stops.Fault d)))
  as_head Short none a = a
  as_head (Bad left) none a = (none, a)

  pub refusal_is_right : (stop : Stop) → Fails stop (head_at bytes) → IsRightHead view bytes (Err (refusal_of bytes stop))
  refusal_is_right stops.Memory k = tt
  refusal_is_right (stops.Fault d) k = as_head d (no_head bytes d k) (answer_is_right head_reads (λ (x : Head). x) bytes (Err (stops.Fault d)) (whole_fault head_at bytes d k))
