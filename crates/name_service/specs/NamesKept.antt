-- The names of rings that come back of whatever is kept of a journal (this project's own).
use Rattle.std.specs.Prelude.{◌≡◌, ℕ, ◌≤◌, ◌<◌, ◌^◌, false, ◌⊎◌, List, [], ◌∷◌, ◌++◌, take, drop, length, Option, Some}
use Rattle.journal.specs.Recovery.{has_line_end}
use Rattle.segment_files.specs.Remarks.{lines_in}
use Rattle.segment_files.specs.RemarkLaws.{AreLines}
use Rattle.ring_service.specs.Recovered.{IsPrefix}
use Rattle.name_remarks.specs.Bindings.{nothing, AreTakenIn}
use Rattle.lock_names.specs.Names.{Bound}
use Rattle.lock_names.specs.Kept.{NamedView}
use Rattle.lock_journal.specs.Begun.{HaveBegun}
use Rattle.name_service.specs.declared.service.NameTerms.{NameTerms}
use Rattle.name_service.specs.Naming.{NamingView}
use Rattle.name_service.specs.NamesText.{pool_bindings}
use Rattle.name_service.specs.RightNames.{AreRightNames}
use Rattle.name_service.specs.NameLines.{AreNamesAnswered, begun_names}

-- Lines are answered so, whatever is said, and these are the notes for the journal.
abbrev pub HaveNoted : NameTerms → NamingView → List (List ℕ) → List ℕ → NamingView → Type 0
HaveNoted terms old lines noted new =
    (said : List ℕ) × AreNamesAnswered terms old lines said noted new

-- the bytes are the first of the text, and not all
abbrev pub EndsWithin : List ℕ → List ℕ → Type 0
EndsWithin text bytes = (b : ℕ) × (more : List ℕ) × (text ≡ bytes ++ b ∷ more)

-- Lines were answered, and their notes begin with these bytes. Those of some lines are all here:
-- these lines are done. The bytes end with them, or within those of one line more.
pub record AreCutAt (terms : NameTerms) (old : NamingView) (lines : List (List ℕ))
    (bytes : List ℕ) (new : NamingView) : Type 0 where
  pub done : List (List ℕ)
  pub one : List (List ℕ)
  pub rest : List (List ℕ)
  pub parts : lines ≡ done ++ (one ++ rest)
  pub few : length one ≤ 1
  pub at : NamingView
  pub next : NamingView
  pub noted : List ℕ
  pub note : List ℕ
  pub before : HaveNoted terms old done noted at
  pub here : HaveNoted terms at one note next
  pub later : (notes : List ℕ) × HaveNoted terms next rest notes new
  pub has : IsPrefix noted bytes
  pub ends : ((one ≡ []) × (bytes ≡ noted)) ⊎ EndsWithin (noted ++ note) bytes

-- the first rings, by their numbers, are bound as they are now, and the others as they were
abbrev pub names_between : ℕ → NamedView → NamedView → List (Option Bound)
names_between first old new = take first new.names ++ drop first old.names

-- Lines were answered, and of their notes these are kept, in a text in which a segment begins with
-- the old names. What it records is how the rings of the pool were bound where the notes end: the
-- first of them as after the line within which that is, and the others as before it.
pub record AreBoundWhereCut (terms : NameTerms) (old : NamedView) (mid : NamingView)
    (lines : List (List ℕ)) (notes : List ℕ) (new : NamingView) (text : List ℕ) : Type 0 where
  pub cut : AreCutAt terms mid lines notes new
  pub first : ℕ
  pub recorded : AreTakenIn (lines_in text) (nothing (length old.locks))
      (record {
        top = Some old.top;
        rings = pool_bindings cut.at.named.fixed (names_between first cut.at.named cut.next.named);
      })

-- The text has the notes of the delivered lines, and of the lines after them the first notes; and
-- it records how the rings were bound there.
pub record BindingsAreKeptIn (terms : NameTerms) (old mid : NamingView) (noted : List ℕ)
    (lines : List (List ℕ)) (new : NamingView) (text : List ℕ) : Type 0 where
  pub since : List ℕ
  pub spelled : text ≡ begun_names old.named ++ (noted ++ since)
  pub bound : AreBoundWhereCut terms old.named mid lines since new text

-- A law: some lines were delivered, and some more were answered. Of whatever is kept of the
-- journal, if it has the notes of the delivered lines, the whole lines record how the rings were
-- bound where it ends; so no ring comes back with a name that it did not have there.
abbrev pub NamesComeBackOfWhateverIsKept : Type 0
NamesComeBackOfWhateverIsKept =
    (terms : NameTerms) (old mid new : NamingView) (told untold : List (List ℕ))
    (said noted unsaid notes kept lost front torn : List ℕ)
    → HaveBegun old.named.locks → AreRightNames old.named
    → AreNamesAnswered terms old told said noted mid
    → AreNamesAnswered terms mid untold unsaid notes new → new.named.top < 2 ^ 64
    → kept ++ lost ≡ begun_names old.named ++ (noted ++ notes)
    → IsPrefix (begun_names old.named ++ noted) kept
    → kept ≡ front ++ torn → AreLines front → has_line_end torn ≡ false
    → BindingsAreKeptIn terms old mid noted untold new front
