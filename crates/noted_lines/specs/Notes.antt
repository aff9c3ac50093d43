-- The note of a line, which is in a journal before what the line did; and that of a segment's
-- beginning (this project's own).
use Rattle.std.specs.Prelude.{◌≡◌, ℕ, ◌<◌, ◌^◌, List, ◌++◌, codes}
use Rattle.text_lines.specs.Spelling.{spaced, ended}
use Rattle.line_service.specs.Answering.{IsLine}
use Rattle.noted_lines.specs.Sums.{sum_of}

-- the sum of how many lines were noted with this one, and of the line
abbrev pub note_sum : ℕ → List ℕ → ℕ
note_sum count line = sum_of (spaced count ++ line)

-- the note of a line, which has its LF: how many were noted with it, the sum of both, the line
abbrev pub note_text : ℕ → List ℕ → List ℕ
note_text count line =
    codes "# do " ++ (spaced count ++ (spaced (note_sum count line) ++ line))

-- the text is the note of this line, with this count
pub record IsNote (count : ℕ) (line text : List ℕ) : Type 0 where
  pub fits : count < 2 ^ 64
  pub is : text ≡ note_text count line

-- of which version a segment is, and how many lines had been noted when it began
abbrev pub done_text : ℕ → ℕ → List ℕ
done_text version count = codes "# done " ++ (spaced version ++ ended count)

-- the text says so
pub record IsDone (version count : ℕ) (text : List ℕ) : Type 0 where
  pub known : version < 2 ^ 64
  pub fits : count < 2 ^ 64
  pub is : text ≡ done_text version count

-- ---- laws

-- the note of a line is a line
abbrev pub NotesAreLines : Type 0
NotesAreLines =
    (count : ℕ) (line : List ℕ) → count < 2 ^ 64 → IsLine line → IsLine (note_text count line)

-- a text is the note of one line, with one count
abbrev pub OneNote : Type 0
OneNote =
    (text : List ℕ) (m n : ℕ) (a b : List ℕ) → IsNote m a text → IsNote n b text
    → (m ≡ n) × (a ≡ b)

-- a beginning is of one version, with one count
abbrev pub OneDone : Type 0
OneDone =
    (text : List ℕ) (v w m n : ℕ) → IsDone v m text → IsDone w n text → (v ≡ w) × (m ≡ n)
