-- What the bad lines of a text have to do with what the checker says of it.
use Rattle.std.specs.Prelude.{◌≡◌, ℕ, List, [], ◌∷◌}
use Rattle.saved_history.specs.Content.{Content}
use Rattle.ring_check.specs.declared.answers.Kind.{Kind}
use Rattle.ring_check.specs.Lines.{lines}
use Rattle.ring_check.specs.Legal.{IsLegalText, IsFirstBad}
use Rattle.bad_lines.specs.declared.wrongs.BadLine.{BadLine}
use Rattle.bad_lines.specs.BadLines.{bad_lines}

-- a text has no bad line exactly if it is legal
abbrev pub NoneIsLegal : Type 0
NoneIsLegal =
    (s : Content) → (bad_lines s ≡ [] → IsLegalText s) × (IsLegalText s → bad_lines s ≡ [])

-- the first of these is of this number and this kind
abbrev pub BeginsWith : List BadLine → ℕ → Kind → Type 0
BeginsWith ls line kind =
    (first : BadLine)
    × (others : List BadLine)
    × (ls ≡ first ∷ others)
    × (first.line ≡ line)
    × (first.bad.kind ≡ kind)

-- and else its first one is the line that the checker answers, with the kind that it answers
abbrev pub FirstIsFirst : Type 0
FirstIsFirst =
    (s : Content) (line : ℕ) (kind : Kind) → IsFirstBad s.version (lines s) line kind
    → BeginsWith (bad_lines s) line kind
