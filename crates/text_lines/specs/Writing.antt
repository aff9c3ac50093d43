-- How far a writer got with a text.
use Rattle.std.specs.Prelude.{◌≡◌, ℕ, ◌<◌, length, slice_index, List, ◌++◌, Option, Result, Ok, Err}
use Rattle.std.specs.Io.KnownBytes.{Appends}
use Rattle.text_lines.specs.declared.write.WriteFault.{WriteFault}

-- The writer's bytes grew by a prefix of a text, and this is the rest of the text.
abbrev pub Wrote : Option (List ℕ) → Option (List ℕ) → List ℕ → List ℕ → Type 0
Wrote old new text left = (front : List ℕ) × (text ≡ front ++ left) × Appends old new front

-- The writer holds all of the text after what it held, or at a fault a prefix of it, which
-- lacks a byte at least.
abbrev pub Writes : Option (List ℕ) → Option (List ℕ) → Result (Unit {0}) WriteFault → List ℕ
    → Type 0
Writes old new (Ok u) text = Appends old new text
Writes old new (Err e) text = (left : List ℕ) × (0 < length left) × Wrote old new text left

-- The n numbers are those that a function answers: each of its answers at a place is the number
-- there.
pub record AreAnswers (Answers : ℕ → ℕ → Type 0) (count : ℕ) (numbers : List ℕ) : Type 0 where
  pub many : length numbers ≡ count
  pub each : (i answer : ℕ) → i < count → Answers i answer → answer ≡ slice_index numbers i
