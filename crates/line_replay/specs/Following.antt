-- The notes that can follow in a journal (this project's own).
use Rattle.std.specs.Prelude.{◌≡◌, ◌≢◌, ◌⊎◌, ℕ, ◌+◌, ◌<◌, ◌≤◌, ◌^◌, List, [], ◌∷◌, ◌++◌, length}
use Rattle.line_service.specs.Answering.{IsLine}
use Rattle.noted_lines.specs.Notes.{note_text}

-- the bytes begin with the whole note of this line, and these come after it
pub record BeginsWithNote (count : ℕ) (line rest bytes : List ℕ) : Type 0 where
  pub fits : count < 2 ^ 64
  pub whole : IsLine line
  pub is : bytes ≡ note_text count line ++ rest

-- after n lines that were noted, with at most that many after them, this note can come
pub record Follows (n most : ℕ) (bytes : List ℕ) : Type 0 where
  pub count : ℕ
  pub line : List ℕ
  pub rest : List ℕ
  pub above : n < count
  pub near : count ≤ n + most
  pub note : BeginsWithNote count line rest bytes

-- it is so after one of the LFs
abbrev pub AfterSomeEnd : (List ℕ → Type 0) → List ℕ → Type 0
AfterSomeEnd P [] = ⊥
AfterSomeEnd P (b ∷ bs) = ((b ≡ 10) × P bs) ⊎ AfterSomeEnd P bs

-- it is so from the beginning of one of the lines on
abbrev pub AtSomeLine : (List ℕ → Type 0) → List ℕ → Type 0
AtSomeLine P bytes = P bytes ⊎ AfterSomeEnd P bytes

-- After n lines that were noted, one of the lines is a note that can follow: each line that is noted
-- leaves a byte at least.
abbrev pub CanFollow : ℕ → List ℕ → Type 0
CanFollow n bytes = AtSomeLine (Follows n (length bytes)) bytes

-- the second does not begin with the first byte of the first
abbrev pub BeginApart : List ℕ → List ℕ → Type 0
BeginApart [] bs = Unit {0}
BeginApart (a ∷ rest) [] = Unit {0}
BeginApart (a ∷ rest) (b ∷ bs) = a ≢ b
