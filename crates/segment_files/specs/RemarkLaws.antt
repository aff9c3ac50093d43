-- Remarks change nothing of what is recovered.
use Rattle.std.specs.Prelude.{◌≡◌, ℕ, false, ◌⊎◌, List, [], ◌∷◌, ◌++◌}
use Rattle.journal.specs.Spelling.{Journal, JournalFits, journal_text}
use Rattle.journal.specs.Recovery.{has_line_end}
use Rattle.segment_files.specs.Remarks.{IsEnded, without_remarks, remarks_in, remark_of}

-- an LF at its end, and nowhere else
abbrev pub IsOneLine : List ℕ → Type 0
IsOneLine line = (body : List ℕ) × (line ≡ body ++ 10 ∷ []) × (has_line_end body ≡ false)

-- no bytes, or lines each of which ends
abbrev pub AreLines : List ℕ → Type 0
AreLines text = (text ≡ []) ⊎ IsEnded text

-- A remark that follows whole lines changes nothing of what a text is without its remarks, and is
-- among these, in its place.
abbrev pub RemarksAreLeftOut : Type 0
RemarksAreLeftOut =
    (front line back : List ℕ) → AreLines front → IsOneLine line
    → (without_remarks (front ++ (remark_of line ++ back)) ≡ without_remarks (front ++ back))
    × (remarks_in (front ++ (remark_of line ++ back))
    ≡ remarks_in front ++ (remark_of line ∷ remarks_in back))

-- A journal has no remark: it is all kept.
abbrev pub JournalsAreKept : Type 0
JournalsAreKept =
    (j : Journal) → JournalFits j
    → (without_remarks (journal_text j) ≡ journal_text j) × (remarks_in (journal_text j) ≡ [])
