-- Lines in parts.
use Rattle.std.proofs.Common.{ℕ, ◌+◌, List, [], ◌∷◌, ◌++◌, sym, subst, arith, ◌<◌, ◌^◌, IsTrue, ◌≢◌, ◌%◌}
use Rattle.std.specs.List.{AllByRecursion}
use Rattle.std.proofs.lemmas.Bool.{true≢false}
use Rattle.text_lines.specs.Spelling.{spaced}
use Rattle.text_lines.specs.LongNumbers.{number_text}
use Rattle.text_lines.proofs.Numerals.{by_digits}
use Rattle.line_service.specs.Answering.{IsLine, HasNoEnd}
use Rattle.segment_files.specs.Spelling.{is_digit}
use Rattle.lock_journal.proofs.KeyLines.{same_text}
use Rattle.lock_journal.proofs.KeysBack.{all_push}

-- a byte before a line
pub line_more : (b : ℕ) (line : List ℕ) → b ≢ 10 → IsLine line → IsLine (b ∷ line)
line_more b [] ne is = absurd is
line_more b (c ∷ cs) ne is = (ne, is)

pub line_after : (front line : List ℕ) → HasNoEnd front → IsLine line → IsLine (front ++ line)
line_after [] line none is = is
line_after (b ∷ bs) line none is = line_more b (bs ++ line) none.0 (line_after bs line none.1 is)

-- what follows a part of a line is a line, or nothing
pub line_rest : (front : List ℕ) (b : ℕ) (bs : List ℕ) → IsLine (front ++ b ∷ bs) → IsLine (b ∷ bs)
line_rest [] b bs is = is
line_rest (x ∷ []) b bs is = is.1
line_rest (x ∷ y ∷ ys) b bs is = line_rest (y ∷ ys) b bs is.1

numeral_ends : (n : ℕ) → HasNoEnd (number_text n)
numeral_ends n = by_digits (λ m ds. HasNoEnd ds)
    (λ m lt. ((λ e. omega (arith, e)), tt))
    (λ m ds ge all. all_push (λ b. b ≢ 10) ds (48 + m % 10) all (λ e. omega (arith, e)))
    n

pub spaced_ends : (n : ℕ) → n < 2 ^ 64 → HasNoEnd (spaced n)
spaced_ends n lt =
    subst (λ (u : List ℕ). HasNoEnd (u ++ 32 ∷ [])) (sym (same_text n lt))
    (all_push (λ b. b ≢ 10) (number_text n) 32 (numeral_ends n) (λ e. omega (arith, e)))

pub digits_end : (digits : List ℕ) → AllByRecursion (λ d. IsTrue (is_digit d)) digits → HasNoEnd digits
digits_end [] all = tt
digits_end (d ∷ ds) all = ((λ e. true≢false (sym (subst (λ (x : ℕ). IsTrue (is_digit x)) e all.0))), digits_end ds all.1)
