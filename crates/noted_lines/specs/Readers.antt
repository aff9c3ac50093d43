-- The readers of notes as functions on lists, and what they answer (this project's own).
use Rattle.std.specs.Prelude.{ℕ, List, length, Option, None, Some, Result, Ok, Err}
use Rattle.text_lines.specs.declared.fault.Fault.{Fault}
use Rattle.text_lines.specs.declared.fault.Fault.TheVariants.{Bad}
use Rattle.text_lines.specs.Reading.{Reader, ◌>>=◌, ◌then◌, whole_at}
use Rattle.text_lines.specs.LongNumbers.{order_at}
use Rattle.noted_lines.specs.declared.notes.Note.{Note}
use Rattle.noted_lines.specs.declared.beginnings.Beginning.{Beginning}
use Rattle.noted_lines.specs.Notes.{IsNote, IsDone}

-- a number of 64 bits
abbrev pub small_of : Option ℕ → List ℕ → Result (ℕ × List ℕ) Fault
small_of (Some n) rest = Ok (n, rest)
small_of None rest = Err (Bad (length rest))

unfoldable pub small_at : ℕ → Reader ℕ
small_at stop bytes = order_at stop bytes >>= λ x. small_of x.0 x.1

-- a count and a sum, each with its space
unfoldable pub counted_at : Reader (ℕ × ℕ)
counted_at = small_at 32 then small_at 32

-- a version and a count, and no more
unfoldable pub beginning_at : List ℕ → Result (ℕ × ℕ) Fault
beginning_at = whole_at (small_at 32 then small_at 10)

-- The text is this line's note; or it is none.
abbrev pub IsNoteAs : List ℕ → Option Note → Type 0
IsNoteAs text (Some note) = IsNote note.count note.line.now text
IsNoteAs text None = (count : ℕ) (line : List ℕ) → ¬ IsNote count line text

-- The text says which version and which count it begins with; or it does not.
abbrev pub IsBeginningAs : List ℕ → Option Beginning → Type 0
IsBeginningAs text (Some beginning) = IsDone beginning.version beginning.count text
IsBeginningAs text None = (version count : ℕ) → ¬ IsDone version count text
