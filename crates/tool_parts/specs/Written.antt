-- The bytes of a writer after a text that was not wholly written.
use Rattle.std.specs.Prelude.{ℕ, ◌<◌, List, length, Option}
use Rattle.text_lines.specs.Writing.{Wrote}

-- its known bytes grew by a prefix of the text, which lacks a byte at least
abbrev pub AppendsFront : Option (List ℕ) → Option (List ℕ) → List ℕ → Type 0
AppendsFront old new text = (left : List ℕ) × (0 < length left) × Wrote old new text left
