-- The right answers of the reader of heads.
use Rattle.std.specs.Prelude.{◌≡◌, ℕ, List, ◌++◌, Result, Ok, Err}
use Rattle.text_lines.specs.declared.answer.ReadError.{ReadError}
use Rattle.text_lines.specs.declared.answer.ReadError.TheVariants.{Syntax, Truncated, OutOfMemory}
use Rattle.text_lines.specs.Texts.{Spells, IsCutShort, IsFirstBadLine}
use Rattle.segment_files.specs.Spelling.{Head, HeadFits, head_text}

-- the bytes begin with the text of no head
abbrev pub BeginsNoHead : List ℕ → Type 0
BeginsNoHead bytes = (h : Head) (rest : List ℕ) → HeadFits h → bytes ≡ head_text h ++ rest → ⊥

-- The right answer, memory aside: the head, seen by view, with whose text the bytes begin, and the
-- bytes after it; or that they are cut short of such a text; or, if they begin with none, the first
-- bad line.
abbrev pub IsRightHead : {X : Type 0} → (X → Head × List ℕ) → List ℕ → Result X ReadError → Type 0
IsRightHead view bytes (Ok x) = HeadFits (view x).0 × (bytes ≡ head_text (view x).0 ++ (view x).1)
IsRightHead view bytes (Err Truncated) = IsCutShort (Spells HeadFits head_text) bytes
IsRightHead view bytes (Err (Syntax line)) =
    BeginsNoHead bytes × IsFirstBadLine (Spells HeadFits head_text) bytes line
IsRightHead view bytes (Err OutOfMemory) = Unit {0}
