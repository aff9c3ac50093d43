-- Remarks about the names of a folder of locks, and how they are spelled (this project's own).
use Rattle.std.specs.Prelude.{◌≡◌, ℕ, ◌<◌, ◌^◌, List, [], ◌∷◌, ◌++◌, codes, ◌⊎◌}
use Rattle.std.specs.List.{AllByRecursion}
use Rattle.text_lines.specs.Spelling.{spaced, ended}
use Rattle.lock_protocol.specs.Names.{IsName, name_ended}

-- how a ring is bound to a name, with the numbers of grants of the ring, and of all rings for ever,
-- before: so the ring's grant n has the token floor + (n - before)
pub record Binding : Type 0 where
  pub before : ℕ
  pub floor : ℕ
  pub name : List ℕ

-- The next grant of a ring binds it so; or the ring has lost its name; or this is the number of
-- grants of all rings for ever.
pub data Remark : Type 0 where
  bind : ℕ → Binding → Remark
  free : ℕ → Remark
  top : ℕ → Remark

-- the line of a remark
abbrev pub remark_text : Remark → List ℕ
remark_text (bind ring b) =
    codes "# name " ++ (spaced ring ++ (spaced b.before ++ (spaced b.floor ++ name_ended b.name)))
remark_text (free ring) = codes "# free " ++ ended ring
remark_text (top grants) = codes "# floor " ++ ended grants

-- the number of a ring has 32 bits, that of grants 64, and a name is one
abbrev pub Fits : Remark → Type 0
Fits (bind ring b) = (ring < 2 ^ 32) × ((b.before < 2 ^ 64) × ((b.floor < 2 ^ 64) × IsName b.name))
Fits (free ring) = ring < 2 ^ 32
Fits (top grants) = grants < 2 ^ 64

-- the line is that of the remark
pub record IsRemark (r : Remark) (line : List ℕ) : Type 0 where
  pub fits : Fits r
  pub is : line ≡ remark_text r

abbrev pub BeginsWith : List ℕ → List ℕ → Type 0
BeginsWith word line = (rest : List ℕ) × (line ≡ word ++ rest)

-- the line begins as a remark about names does
abbrev pub BeginsAsOne : List ℕ → Type 0
BeginsAsOne line =
    BeginsWith (codes "# name ") line
    ⊎ (BeginsWith (codes "# free ") line ⊎ BeginsWith (codes "# floor ") line)

-- The text is one line: its only LF is the last byte.
pub record IsOneLine (text : List ℕ) : Type 0 where
  pub front : List ℕ
  pub ends : text ≡ front ++ 10 ∷ []
  pub none : AllByRecursion (λ b. ¬ (b ≡ 10)) front

-- a law: the text of each remark is one line
abbrev pub RemarksAreLines : Type 0
RemarksAreLines = (r : Remark) → Fits r → IsOneLine (remark_text r)
