-- The remarks of a file, which are not part of what is recovered of it (this project's own).
use Rattle.std.specs.Prelude.{◌≡◌, ℕ, zero, suc, ◌+◌, ◌==◌, cond, not, Bool, false, List, [], ◌∷◌, ◌++◌, codes}
use Rattle.std.specs.List.{filter, flat_map}

-- the text ends with an LF
abbrev pub IsEnded : List ℕ → Type 0
IsEnded text = (front : List ℕ) × (text ≡ front ++ 10 ∷ [])

-- these lines with one more byte before the first of them
abbrev pub with_byte : ℕ → List (List ℕ) → List (List ℕ)
with_byte b [] = (b ∷ []) ∷ []
with_byte b (line ∷ lines) = (b ∷ line) ∷ lines

-- a text line by line, each with its LF; the last without, if it has none
unfoldable pub lines_in : List ℕ → List (List ℕ)
lines_in [] = []
lines_in (b ∷ bs) = cond (b == 10) ((b ∷ []) ∷ lines_in bs) (with_byte b (lines_in bs))

-- the line begins with #
abbrev pub is_remark : List ℕ → Bool
is_remark [] = false
is_remark (b ∷ bs) = b == 35

-- the lines of a text that are not remarks, one after the other
unfoldable pub without_remarks : List ℕ → List ℕ
without_remarks text =
    flat_map (λ (line : List ℕ). line)
    (filter (λ (line : List ℕ). not (is_remark line)) (lines_in text))

-- the remarks of a text, in their order
unfoldable pub remarks_in : List ℕ → List (List ℕ)
remarks_in text = filter is_remark (lines_in text)

-- the remark of a line
abbrev pub remark_of : List ℕ → List ℕ
remark_of line = codes "# " ++ line

-- the number, from 1, among all of these lines, of the n-th one that is not a remark
unfoldable pub line_among : List (List ℕ) → ℕ → ℕ
line_among [] n = n
line_among (line ∷ lines) zero = zero
line_among (line ∷ lines) (suc n) =
    cond (is_remark line) (1 + line_among lines (suc n)) (1 + line_among lines n)
