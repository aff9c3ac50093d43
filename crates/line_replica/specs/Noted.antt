-- The notes of a replica: those of the service inside, and remarks (this project's own).
use Rattle.std.specs.Prelude.{◌≡◌, ℕ, List, [], ◌∷◌, ◌++◌, ◌⊎◌}
use Rattle.std.specs.List.{AllByRecursion}
use Rattle.line_service.specs.Answering.{Answers}
use Rattle.line_service.specs.Stands.{Stand, AnsweringWith, by_stand}
use Rattle.line_replica.specs.declared.reading.Tag.{Tag}
use Rattle.line_replica.specs.Log.{Numbers, given_of, numbers_after}
use Rattle.line_replica.specs.Reading.{heard}
use Rattle.line_replica.specs.Running.{place_line}
use Rattle.line_replica.specs.State.{kept_line, forget_line, remarks_of}

-- a line that brings back what has changed: of a key, of one that is forgotten, or of a place
abbrev pub IsOwn : List ℕ → Type 0
IsOwn line =
    ((tag : Tag) × (first : List ℕ) × (line ≡ kept_line tag first))
    ⊎ (((tag : Tag) × (line ≡ forget_line tag))
    ⊎ ((place : ℕ) × (digest : List ℕ) × (line ≡ place_line place digest)))

-- What is given of a line was answered inside. All that was noted after its notes are the remarks
-- of these lines, each of which is of this kind.
pub record IsGiven {S : Type 0} (A : AnsweringWith S) (Own : List ℕ → Type 0) (old : Stand S)
    (lines own : List (List ℕ)) (noted : List ℕ) (new : Stand S) : Type 0 where
  pub told : List ℕ
  pub notes : List ℕ
  pub answered : Answers (by_stand A) old lines told notes new
  pub each : AllByRecursion Own own
  pub noted_are : noted ≡ notes ++ remarks_of own

-- So it is with each line of a log, one after the other: these are the notes of the service inside,
-- and those are all notes.
abbrev pub AreGiven : {S : Type 0} → AnsweringWith S → (List ℕ → Type 0) → Numbers → Stand S
    → List (List ℕ) → List ℕ → List ℕ → Stand S → Type 0
AreGiven A Own numbers old [] inside noted new = (inside ≡ []) × (noted ≡ []) × (new ≡ old)
AreGiven A Own numbers old (line ∷ lines) inside noted new =
    (mid : Stand _)
    × (own : List (List ℕ))
    × (first : List ℕ)
    × (more : List ℕ)
    × (notes : List ℕ)
    × (given : IsGiven A Own old (given_of (heard line) numbers line) own first mid)
    × (inside ≡ given.notes ++ notes)
    × (noted ≡ first ++ more)
    × AreGiven A Own (numbers_after (heard line) numbers) mid lines notes more new
