-- Lines that are answered one after the other, by whatever answers a line (this project's own).
use Rattle.std.specs.Prelude.{◌≡◌, ◌≢◌, ℕ, ◌+◌, ◌<◌, List, [], ◌∷◌, ◌++◌, length, take}
use Rattle.std.specs.List.{AllByRecursion}
use Rattle.text_lines.specs.Limits.{line_limit}

-- how a line is answered: from what was there before to what is there after it, with this text, and
-- these are its notes
abbrev pub Answering : Type 0 → Type 1
Answering S = S → List ℕ → List ℕ → List ℕ → S → Type 0

-- a line has its LF at its end, and nowhere else
abbrev pub IsLine : List ℕ → Type 0
IsLine [] = ⊥
IsLine (b ∷ []) = b ≡ 10
IsLine (b ∷ c ∷ bs) = (b ≢ 10) × IsLine (c ∷ bs)

-- no line ends here
abbrev pub HasNoEnd : List ℕ → Type 0
HasNoEnd begun = AllByRecursion (λ b. b ≢ 10) begun

-- the kept part of a line that has begun: of one that is too long, one byte more than a line may
-- have
unfoldable pub cut : List ℕ → List ℕ
cut begun = take (line_limit + 1) begun

-- a line that has begun, and what is kept of it
pub record HasLineBegun (begun line : List ℕ) : Type 0 where
  pub partial : HasNoEnd begun
  pub kept : line ≡ cut begun

-- a line that is too long is answered as its kept part is
abbrev pub IsByStart : {S : Type 0} → Answering S → Type 0
IsByStart A =
    (old new : _) (full said noted : List ℕ) → line_limit < length full
    → A old (cut full) said noted new → A old full said noted new

-- These lines are answered, one after the other, with this text, and these are the notes.
abbrev pub Answers : {S : Type 0} → Answering S → S → List (List ℕ) → List ℕ → List ℕ → S → Type 0
Answers A old [] said noted new = (said ≡ []) × (noted ≡ []) × (new ≡ old)
Answers A old (line ∷ lines) said noted new =
    (mid : _)
    × (first : List ℕ)
    × (later : List ℕ)
    × (note : List ℕ)
    × (notes : List ℕ)
    × A old line first note mid
    × (said ≡ first ++ later)
    × (noted ≡ note ++ notes)
    × Answers A mid lines later notes new

abbrev pub joined_lines : List (List ℕ) → List ℕ
joined_lines [] = []
joined_lines (line ∷ lines) = line ++ joined_lines lines

-- The lines of these bytes, up to where this rest begins, were answered with this text, and these
-- are the notes.
pub record AreAnswered {S : Type 0} (A : Answering S) (old : S) (bytes rest said noted : List ℕ)
    (new : S) : Type 0 where
  pub lines : List (List ℕ)
  pub split : bytes ≡ joined_lines lines ++ rest
  pub each : AllByRecursion IsLine lines
  pub answers : Answers A old lines said noted new
