-- The history that is recovered of the bytes of a journal, and the refusals (this project's own).
use Rattle.std.specs.Prelude.{◌≡◌, ℕ, ◌+◌, ◌<◌, List, ◌++◌, length, take, ◌==◌, Bool, true, false, ◌⊎◌, Result, Ok, Err}
use Rattle.std.specs.List.{list_any}
use Rattle.text_lines.specs.Texts.{Spells, IsCutShort, IsFirstBadLine, line_of}
use Rattle.saved_history.specs.declared.saved.Saved.{Saved}
use Rattle.saved_history.specs.Content.{Content, content}
use Rattle.saved_history.specs.Spelling.{Fits}
use Rattle.ring_check.specs.declared.answers.Kind.{Kind}
use Rattle.ring_check.specs.declared.answers.CheckError.TheVariants as check
use Rattle.ring_check.specs.Legal.{IsLegalText, IsRightCheck}
use Rattle.journal.specs.declared.calls.JournalLine.{JournalLine}
use Rattle.journal.specs.declared.errors.RecoverError.{RecoverError}
use Rattle.journal.specs.declared.errors.RecoverError.TheVariants.{Truncated, Syntax, Bad, OutOfMemory}
use Rattle.journal.specs.Spelling.{Journal, JournalFits, JournalLineFits, journal_text, journal_head, journal_line}
use Rattle.journal.specs.Reading.{BeginsNone}
use Rattle.journal.specs.ContentAfter.{content_after}

-- whether a line ends in the bytes
abbrev pub has_line_end : List ℕ → Bool
has_line_end bytes = list_any (λ b. b == 10) bytes

-- The bytes are a journal's text, and after it a tail that begins with no line of a call.
pub record IsJournalThen (bytes : List ℕ) (j : Journal) (tail : List ℕ) : Type 0 where
  pub fits : JournalFits j
  pub spelled : bytes ≡ journal_text j ++ tail
  pub behind : BeginsNone (JournalLineFits j.began.version (length j.began.rings)) journal_line tail

-- the number of the line of this call, where lines are numbered from 1 and calls from 0: the first
-- comes after the journal's start
abbrev pub call_line_number : List ℕ → Content → ℕ → ℕ
call_line_number bytes began call = line_of bytes (length (journal_head began)) + call

-- The recovered history: the legal one that the journal's whole lines record. Only the tail is left
-- out, in which no line ends, and the open members before it.
pub record IsRecovered (bytes : List ℕ) (c : Content) : Type 0 where
  pub journal : Journal
  pub tail : List ℕ
  pub lines : IsJournalThen bytes journal tail
  pub unended : has_line_end tail ≡ false
  pub began : IsLegalText journal.began
  pub is : c ≡ content_after journal.began journal.calls
  pub legal : IsLegalText c

-- no journal's start is at the front of the bytes, and up to this line, the first, they
-- begin none
pub record IsNoBeginning (bytes : List ℕ) (line : ℕ) : Type 0 where
  pub none : BeginsNone Fits journal_head bytes
  pub first : IsFirstBadLine (Spells Fits journal_head) bytes line

-- a whole line that is not a call's: the one after the journal's
pub record IsNoCall (bytes : List ℕ) (line : ℕ) : Type 0 where
  pub journal : Journal
  pub tail : List ℕ
  pub lines : IsJournalThen bytes journal tail
  pub ended : has_line_end tail ≡ true
  pub number : line ≡ call_line_number bytes journal.began (length journal.calls)

-- the journal's start is not legal: a line of its own is the first bad one, and the
-- journal's first line is before those
pub record IsBadBeginning (bytes : List ℕ) (line : ℕ) (kind : Kind) : Type 0 where
  pub began : Content
  pub rest : List ℕ
  pub fits : Fits began
  pub spelled : bytes ≡ journal_head began ++ rest
  pub said : ℕ
  pub bad : IsRightCheck began (Err (check.Bad said kind))
  pub number : line ≡ said + 1

-- the calls before this one record a legal history, and with it they record one that has a fault of
-- this kind
pub record IsWrongCall (began : Content) (calls : List JournalLine) (call : ℕ) (kind : Kind) :
    Type 0 where
  pub within : call < length calls
  pub before : 0 < call → IsLegalText (content_after began (take call calls))
  pub said : ℕ
  pub bad : IsRightCheck (content_after began (take (call + 1) calls)) (Err (check.Bad said kind))

-- the journal's start is legal, and this line is of such a call
pub record IsBadCall (bytes : List ℕ) (line : ℕ) (kind : Kind) : Type 0 where
  pub journal : Journal
  pub tail : List ℕ
  pub lines : IsJournalThen bytes journal tail
  pub began : IsLegalText journal.began
  pub call : ℕ
  pub wrong : IsWrongCall journal.began journal.calls call kind
  pub number : line ≡ call_line_number bytes journal.began call

-- The right answer, memory aside: the recovered history; or that the bytes are cut short of a
-- journal's start, so that no call is recorded; or else a bad line.
abbrev pub IsRightRecovery : List ℕ → Result Saved RecoverError → Type 0
IsRightRecovery bytes (Ok saved) = IsRecovered bytes (content saved)
IsRightRecovery bytes (Err Truncated) = IsCutShort (Spells Fits journal_head) bytes
IsRightRecovery bytes (Err (Syntax line)) = IsNoBeginning bytes line ⊎ IsNoCall bytes line
IsRightRecovery bytes (Err (Bad line kind)) =
    IsBadBeginning bytes line kind ⊎ IsBadCall bytes line kind
IsRightRecovery bytes (Err OutOfMemory) = Unit {0}
