-- Lines about names, one after the other, and the locks that come back of their journal (this
-- project's own).
use Rattle.std.specs.Prelude.{◌≡◌, ℕ, ◌<◌, ◌^◌, true, false, List, ◌++◌, Option}
use Rattle.disks.specs.Held.{Held}
use Rattle.line_service.specs.Answering.{Answers}
use Rattle.line_service.specs.Stands.{by_stand, stand}
use Rattle.segment_files.specs.Remarks.{without_remarks}
use Rattle.journal.specs.Recovery.{has_line_end}
use Rattle.ring_service.specs.Recovered.{IsPrefix}
use Rattle.held_locks.specs.Kept.{AreKept}
use Rattle.lock_names.specs.Kept.{NamedView}
use Rattle.lock_journal.specs.Begun.{begun_text, HaveBegun}
use Rattle.lock_journal.specs.Recovered.{ComeBack, AreKeptIn}
use Rattle.name_service.specs.declared.service.NameTerms.{NameTerms}
use Rattle.name_service.specs.declared.service.NameService.{NameService}
use Rattle.name_service.specs.Naming.{NamingView}
use Rattle.name_service.specs.Serving.{IsNameLineAnswered, IsNameServed}
use Rattle.name_service.specs.NamesText.{names_text}
use Rattle.name_service.specs.RightNames.{AreRightNames}
use Rattle.name_service.specs.RingLines.{ring_segment, HaveRingLines}

-- Lines are answered one after the other, with this text, and these are the notes for the journal.
pub record AreNamesAnswered (terms : NameTerms) (old : NamingView) (lines : List (List ℕ))
    (said noted : List ℕ) (new : NamingView) : Type 0 where
  pub noting : terms.lines.noting ≡ true
  pub answers : Answers (IsNameLineAnswered terms) old lines said noted new

-- ---- laws: lines that the service answers are answered so, and no file changes; and it may be
-- stopped between lines

abbrev pub ServedNameLinesAreAnswered : Type 0
ServedNameLinesAreAnswered =
    (old new : NameService) (was is : Option Held) (lines : List (List ℕ)) (said noted : List ℕ)
    → old.terms.lines.noting ≡ true
    → Answers (by_stand IsNameServed) (stand old was) lines said noted (stand new is)
    → AreNamesAnswered old.terms old.segment lines said noted new.segment × (is ≡ was)

abbrev pub AnsweredNameLinesFollow : Type 0
AnsweredNameLinesFollow =
    (terms : NameTerms) (old mid new : NamingView) (lines more : List (List ℕ))
    (said noted unsaid notes : List ℕ) → AreNamesAnswered terms old lines said noted mid
    → AreNamesAnswered terms mid more unsaid notes new
    → AreNamesAnswered terms old (lines ++ more) (said ++ unsaid) (noted ++ notes) new

-- ---- laws: what comes back of a journal

-- the text with which the journal of a segment begins, after the head of its file: that of the
-- rings, and then that of their names
abbrev pub begun_names : NamedView → List ℕ
begun_names v = begun_text v.locks ++ names_text v

-- Without the remarks, the locks of a segment come back from its beginning and the notes of the
-- lines since, whatever is torn after them, as they were after the last line.
abbrev pub NamedLocksComeBack : Type 0
NamedLocksComeBack =
    (terms : NameTerms) (old new : NamingView) (entries : List (ℕ × ℕ)) (lines : List (List ℕ))
    (said noted torn : List ℕ) → HaveBegun old.named.locks → AreRightNames old.named
    → AreNamesAnswered terms old lines said noted new → AreKept new.named.locks entries
    → new.named.top < 2 ^ 64 → has_line_end torn ≡ false
    → ComeBack old.named.locks new.named.locks
    (without_remarks (begun_names old.named ++ (noted ++ torn)))

-- The lines of rings are these. What the rings answered is in what is kept of the journal.
pub record AreNamesKeptIn (terms : NameTerms) (old : NamingView) (lines : List (List ℕ))
    (said noted : List ℕ) (new : NamingView) (bytes : List ℕ) : Type 0 where
  pub of_rings : HaveRingLines terms old lines said noted new
  pub kept : AreKeptIn terms.lines (ring_segment old.named) of_rings.rings of_rings.told
      (ring_segment new.named) (without_remarks bytes)

-- Some lines were delivered, and some more were answered. Whatever is kept of the journal, if it has
-- the notes of the delivered lines, nothing that they did is lost.
abbrev pub NothingToldOfNamesIsLost : Type 0
NothingToldOfNamesIsLost =
    (terms : NameTerms) (old mid new : NamingView) (entries : List (ℕ × ℕ))
    (told untold : List (List ℕ)) (said noted unsaid notes kept lost : List ℕ)
    → HaveBegun old.named.locks → AreRightNames old.named
    → AreNamesAnswered terms old told said noted mid
    → AreNamesAnswered terms mid untold unsaid notes new → AreKept new.named.locks entries
    → new.named.top < 2 ^ 64 → kept ++ lost ≡ begun_names old.named ++ (noted ++ notes)
    → IsPrefix (begun_names old.named ++ noted) kept
    → AreNamesKeptIn terms old told said noted mid kept
