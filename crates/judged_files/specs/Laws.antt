-- What is true of a folder that is accepted (this project's own).
use Rattle.std.specs.Prelude.{◌≡◌, ℕ, ◌≤◌, false, List, [], ◌∷◌, ◌++◌, length, ◌⊎◌}
use Rattle.std.specs.List.{AllByRecursion}
use Rattle.name_bindings.specs.Bindings.{AreDistinct}
use Rattle.name_check.specs.declared.lines.Ring.{Ring}
use Rattle.name_check.specs.Entries.{Entry, begun, File as NextFile}
use Rattle.name_check.specs.Judged.{AreRight}
use Rattle.name_check.specs.Laws.{AreHolds, signs_of, NoneHeld}
use Rattle.judged_files.specs.Lines.{whole_lines, shows_pool, AreSaidBy}
use Rattle.judged_files.specs.Beginnings.{Begins}
use Rattle.judged_files.specs.Judging.{IsJudgedFolder}

-- what files say that come after one that is judged: each how many rings it has, and what its lines
-- say
abbrev pub FilesSay : List (List ℕ) → List Entry → Type 0
FilesSay [] es = es ≡ []
FilesSay (f ∷ fs) es =
    (rings : List Ring)
    × (said : List Entry)
    × (more : List Entry)
    × Begins f rings
    × AreSaidBy false (whole_lines f) said
    × FilesSay fs more
    × (es ≡ NextFile (length rings) ∷ (said ++ more))

-- these files are from before the folder had a pool after this number of fixed locks
abbrev pub AreBefore : ℕ → List (List ℕ) → Type 0
AreBefore fixed files = AllByRecursion (λ (f : List ℕ). shows_pool fixed f ≡ false) files

-- The first file of a folder that is judged begins with these rings, and from its first line on the
-- files say this.
pub record Say (fixed : ℕ) (files : List (List ℕ)) (gs : List Ring) (es : List Entry) : Type 0 where
  pub before : List (List ℕ)
  pub first : List ℕ
  pub others : List (List ℕ)
  pub parts : files ≡ before ++ first ∷ others
  pub older : AreBefore fixed before
  pub begins : Begins first gs
  pub said : List Entry
  pub more : List Entry
  pub each : AreSaidBy false (whole_lines first) said
  pub later : FilesSay others more
  pub all : es ≡ said ++ more

-- The holds of each name are one after the other, and their tokens rise, over all files that are
-- judged, if no ring is held where they begin.
abbrev pub AreNamed : List (List ℕ) → List Ring → List Entry → Type 0
AreNamed fixed gs es =
    (x : List ℕ) → AreDistinct fixed → length fixed ≤ length gs → NoneHeld gs
    → AreHolds 0 false (signs_of x (begun fixed gs) es)

-- A law: no file of an accepted folder is judged; or what they say is right, line by line.
abbrev pub JudgedFoldersAreNamed : Type 0
JudgedFoldersAreNamed =
    (fixed files : List (List ℕ)) → IsJudgedFolder fixed files
    → AreBefore (length fixed) files
    ⊎ ((gs : List Ring)
    × (es : List Entry)
    × Say (length fixed) files gs es
    × AreRight (begun fixed gs) es
    × AreNamed fixed gs es)
