-- The note of a line is a line.
use Rattle.std.proofs.Common.{◌≢◌, ℕ, ◌+◌, ◌<◌, ◌^◌, ◌%◌, List, [], ◌∷◌, ◌++◌, sym, subst, arith}
use Rattle.std.specs.Prelude.{codes}
use Rattle.text_lines.specs.Spelling.{spaced}
use Rattle.text_lines.specs.LongNumbers.{number_text}
use Rattle.text_lines.proofs.Numerals.{by_digits}
use Rattle.line_service.specs.Answering.{IsLine, HasNoEnd}
use Rattle.noted_lines.specs.Notes.{note_sum, note_text, NotesAreLines}
use Rattle.noted_lines.proofs.Summed.{sum_small}
use Rattle.noted_lines.proofs.NotedReads.{same_text}

-- ---- lines in parts

pub line_more : (b : ℕ) (line : List ℕ) → b ≢ 10 → IsLine line → IsLine (b ∷ line)
line_more b [] ne is = absurd is
line_more b (c ∷ cs) ne is = (ne, is)

pub line_after : (front line : List ℕ) → HasNoEnd front → IsLine line → IsLine (front ++ line)
line_after [] line none is = is
line_after (b ∷ bs) line none is = line_more b (bs ++ line) none.0 (line_after bs line none.1 is)

pub no_end_more : (front more : List ℕ) → HasNoEnd front → HasNoEnd more → HasNoEnd (front ++ more)
no_end_more [] more p q = q
no_end_more (b ∷ bs) more p q = (p.0, no_end_more bs more p.1 q)

-- ---- notes

numeral_ends : (n : ℕ) → HasNoEnd (number_text n)
numeral_ends n = by_digits (λ m ds. HasNoEnd ds)
    (λ m lt. ((λ e. omega (arith, e)), tt))
    (λ m ds ge all. no_end_more ds ((48 + m % 10) ∷ []) all ((λ e. omega (arith, e)), tt))
    n

spaced_ends : (n : ℕ) → n < 2 ^ 64 → HasNoEnd (spaced n)
spaced_ends n lt =
    subst (λ (u : List ℕ). HasNoEnd (u ++ 32 ∷ [])) (sym (same_text n lt))
    (no_end_more (number_text n) (32 ∷ []) (numeral_ends n) ((λ e. omega (arith, e)), tt))

word_ends : HasNoEnd (codes "# do ")
word_ends = ((λ e. omega (arith, e)), ((λ e. omega (arith, e)), ((λ e. omega (arith, e)), ((λ e. omega (arith, e)), ((λ e. omega (arith, e)), tt)))))

pub notes_are_lines : NotesAreLines
notes_are_lines count line lt is =
    line_after (codes "# do ") (spaced count ++ (spaced (note_sum count line) ++ line)) word_ends
    (line_after (spaced count) (spaced (note_sum count line) ++ line) (spaced_ends count lt)
    (line_after (spaced (note_sum count line)) line (spaced_ends (note_sum count line) (sum_small (spaced count ++ line))) is))

-- what is after a part without LF is a line, if both are one
line_behind : (front line : List ℕ) → HasNoEnd front → IsLine (front ++ line) → IsLine line
line_behind [] line none is = is
line_behind (b ∷ []) [] none is = absurd (none.0 is)
line_behind (b ∷ []) (c ∷ cs) none is = is.1
line_behind (b ∷ d ∷ bs) line none is = line_behind (d ∷ bs) line none.1 is.1

pub noted_is_line : (count : ℕ) (line : List ℕ) → count < 2 ^ 64 → IsLine (note_text count line) → IsLine line
noted_is_line count line lt is =
    line_behind (spaced (note_sum count line)) line (spaced_ends (note_sum count line) (sum_small (spaced count ++ line)))
    (line_behind (spaced count) (spaced (note_sum count line) ++ line) (spaced_ends count lt)
    (line_behind (codes "# do ") (spaced count ++ (spaced (note_sum count line) ++ line)) word_ends is))
