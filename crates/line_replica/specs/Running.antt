-- The running digest of all that is answered (this project's own).
use Rattle.std.specs.Prelude.{ℕ, List, [], ◌∷◌, ◌++◌, codes}
use Rattle.text_lines.specs.Spelling.{spaced}
use Rattle.segment_files.specs.Spelling.{digest_of, no_digest}

-- the last place, and what the next digest is of: the digest at that place, and all that was
-- answered since; nothing before the first
pub record RunningView : Type 0 where
  pub place : ℕ
  pub since : List ℕ

abbrev pub grown : List ℕ → List ℕ → List ℕ
grown [] text = []
grown (b ∷ bs) text = (b ∷ bs) ++ text

-- this was answered since
abbrev pub with_said : RunningView → List ℕ → RunningView
with_said r text = record { place = r.place; since = grown r.since text }

-- the digest at the next place: at first 64 times 0
abbrev pub next_of : List ℕ → List ℕ
next_of [] = no_digest
next_of (b ∷ bs) = digest_of (b ∷ bs)

-- this is the digest of all that was answered up to this place
abbrev pub at_place : ℕ → List ℕ → RunningView
at_place place digest = record { place = place; since = digest }

-- the line of a place and its digest
abbrev pub place_line : ℕ → List ℕ → List ℕ
place_line place digest = codes "at " ++ (spaced place ++ (digest ++ codes "\n"))
