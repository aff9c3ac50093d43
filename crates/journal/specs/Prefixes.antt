-- The history that is recovered of a prefix of a right journal (this project's own).
use Rattle.std.specs.Prelude.{◌≡◌, ℕ, ◌<◌, ◌≤◌, List, ◌++◌, length, Result, Ok, Err}
use Rattle.saved_history.specs.declared.saved.Saved.{Saved}
use Rattle.saved_history.specs.Content.{Content, content}
use Rattle.saved_history.specs.Spelling.{HasNoMember}
use Rattle.saved_history.specs.Versions.{first_version, IsVersion}
use Rattle.ring_check.specs.Legal.{IsLegalText}
use Rattle.journal.specs.declared.calls.JournalLine.{JournalLine}
use Rattle.journal.specs.declared.errors.RecoverError.{RecoverError}
use Rattle.journal.specs.declared.errors.RecoverError.TheVariants.{Truncated, Syntax, Bad, OutOfMemory}
use Rattle.journal.specs.Spelling.{Journal, JournalFits, journal_head, journal_text}
use Rattle.journal.specs.ContentAfter.{content_after}
use Rattle.journal.specs.Recovery.{IsRecovered, IsRightRecovery}

-- a journal is right if its start is legal, and the recorded history was legal at each
-- moment, of whole groups
pub record IsRightJournal (j : Journal) : Type 0 where
  pub fits : JournalFits j
  pub began : IsLegalText j.began
  pub legal : (front back : List JournalLine) → j.calls ≡ front ++ back
      → IsLegalText (content_after j.began front)

-- the journal with only its first calls
abbrev pub up_to : Journal → List JournalLine → Journal
up_to j front = record { began = j.began; calls = front }

-- The recovered history is the journal's own up to some call: no call comes after that one
-- whose line ends in the bytes.
pub record IsOwnHistory (j : Journal) (bytes : List ℕ) (c : Content) : Type 0 where
  pub front : List JournalLine
  pub back : List JournalLine
  pub parts : j.calls ≡ front ++ back
  pub is : c ≡ content_after j.began front
  pub holds : (calls others : List JournalLine) (rest : List ℕ) → j.calls ≡ calls ++ others
      → bytes ≡ journal_text (up_to j calls) ++ rest → length calls ≤ length front

-- the right answers to a prefix of a journal: its own history; or, if the bytes end before
-- the first call, that they are cut short; memory aside
abbrev pub IsAnswerOfBeginning : Journal → List ℕ → Result Saved RecoverError → Type 0
IsAnswerOfBeginning j bytes (Ok saved) = IsOwnHistory j bytes (content saved)
IsAnswerOfBeginning j bytes (Err Truncated) = length bytes < length (journal_head j.began)
IsAnswerOfBeginning j bytes (Err (Syntax line)) = ⊥
IsAnswerOfBeginning j bytes (Err (Bad line kind)) = ⊥
IsAnswerOfBeginning j bytes (Err OutOfMemory) = Unit {0}

-- A right journal that was cut anywhere gives its own history: no other answer to a prefix of
-- its text is right.
abbrev pub PrefixesAreRecovered : Type 0
PrefixesAreRecovered =
    (j : Journal) (bytes more : List ℕ) (answer : Result Saved RecoverError) → IsRightJournal j
    → bytes ++ more ≡ journal_text j → IsRightRecovery bytes answer
    → IsAnswerOfBeginning j bytes answer

-- ---- a recovered history can be saved

-- the values that the writer of saved texts takes: a ring at least, a version that there is, and no
-- member of a group in the first one
pub record CanBeSaved (c : Content) : Type 0 where
  pub some : 0 < length c.rings
  pub version : IsVersion c.version
  pub members : c.version ≡ first_version → HasNoMember c

-- a recovered history is such a value
abbrev pub RecoveredCanBeSaved : Type 0
RecoveredCanBeSaved = (bytes : List ℕ) (c : Content) → IsRecovered bytes c → CanBeSaved c

-- of some bytes one history is recovered, and no other
abbrev pub OneIsRecovered : Type 0
OneIsRecovered =
    (bytes : List ℕ) (c d : Content) → IsRecovered bytes c → IsRecovered bytes d → c ≡ d
