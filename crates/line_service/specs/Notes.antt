-- The notes of delivered lines in the file of the last segment (this project's own).
use Rattle.std.specs.Prelude.{◌≡◌, ℕ, List, [], ◌∷◌, ◌++◌, Option, IfSome, Result, MatchResult}
use Rattle.std.specs.List.{AllByRecursion}
use Rattle.std.specs.Io.KnownBytes.{Appends, Consumes}
use Rattle.text_lines.specs.Writing.{Wrote}
use Rattle.disks.specs.Held.{Held}
use Rattle.line_service.specs.Answering.{AreAnswered}
use Rattle.line_service.specs.Stands.{AnsweringWith, by_stand, stand}
use Rattle.line_service.specs.Segmenting.{Segmenting}
use Rattle.line_service.specs.Segments.{Moment, stand_of}
use Rattle.line_service.specs.Service.{Part, AreParts, all_lines, all_said}

-- the notes of all parts
abbrev pub all_noted : {S : Type 0} → List (Part S) → List ℕ
all_noted [] = []
all_noted (p ∷ ps) = p.noted ++ all_noted ps

-- the parts are in the segment of this number
abbrev pub AreIn : {S : Type 0} → ℕ → List (Part S) → Type 0
AreIn number parts = AllByRecursion (λ p. p.from.number ≡ number) parts

-- The file of the last segment has the notes of its parts, and then these, after what it held when
-- the first of them began.
abbrev pub KeepsLast : {S : Type 0} → List (Part S) → List ℕ → Option (List ℕ) → Type 0
KeepsLast parts more journal =
    (earlier : List (Part _)) (first : Part _) (others : List (Part _))
    → parts ≡ earlier ++ first ∷ others → AreIn first.from.number others
    → IfSome first.from.files
    (λ _. Appends first.from.journal journal (all_noted (first ∷ others) ++ more))

-- Wherever serving ended: these parts were delivered, the output has a prefix of their answers and
-- nothing else, and the file of the last segment has their notes. Of the lines after them some were
-- answered, and the file has a prefix of their notes.
pub record ToldLinesAreNoted {S : Type 0} (A : AnsweringWith S) (G : Segmenting S) (folder : List ℕ)
    (a : Moment S) (new : S) (input rest out after journal : Option (List ℕ)) : Type 0 where
  pub parts : List (Part S)
  pub mid : Moment S
  pub bytes : List ℕ
  pub behind : List ℕ
  pub left : List ℕ
  pub untaken : List ℕ
  pub unsaid : List ℕ
  pub more : List ℕ
  pub back : List ℕ
  pub is : Option Held
  pub told : AreParts A G folder a parts mid
  pub untold : AreAnswered (by_stand A) (stand_of mid) behind untaken unsaid (more ++ back)
      (stand new is)
  pub read : Consumes input rest bytes
  pub split : bytes ≡ all_lines parts ++ behind
  pub wrote : Wrote out after (all_said parts) left
  pub wrote_notes : Appends mid.journal journal more
  pub keeps : KeepsLast parts more journal

-- So it is of what the file of the segment holds that a result has; or, where it has none, of
-- something.
abbrev pub ForJournal : {R E : Type 0} → Result R E → (R → Option (List ℕ))
    → (Option (List ℕ) → Type 0) → Type 0
ForJournal result holds So =
    MatchResult result (λ r. So (holds r)) (λ _. (journal : Option (List ℕ)) × So journal)
