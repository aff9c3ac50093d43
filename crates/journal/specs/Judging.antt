-- The answers of the steps of a recovery.
use Rattle.std.specs.Prelude.{◌≡◌, ℕ, ◌+◌, ◌<◌, ◌^◌, List, length, Option, Some, None, Result, Ok, Err}
use Rattle.std.specs.List.{All}
use Rattle.text_lines.specs.declared.answer.ReadError.{ReadError}
use Rattle.text_lines.specs.declared.answer.ReadError.TheVariants as read
use Rattle.saved_history.specs.declared.saved.Saved.{Saved}
use Rattle.saved_history.specs.Content.{Content, content}
use Rattle.ring_check.specs.declared.answers.Kind.{Kind}
use Rattle.ring_check.specs.declared.answers.CheckError.{CheckError}
use Rattle.ring_check.specs.declared.answers.CheckError.TheVariants as check
use Rattle.ring_check.specs.Legal.{IsLegalText, IsRightCheck}
use Rattle.ring_check.specs.Meaning.{IsRightText}
use Rattle.ring_check.specs.Lines.{lines}
use Rattle.journal.specs.declared.calls.JournalLine.{JournalLine}
use Rattle.journal.specs.declared.errors.RecoverError.{RecoverError}
use Rattle.journal.specs.declared.errors.RecoverError.TheVariants.{Truncated, Syntax, OutOfMemory}
use Rattle.journal.specs.Reading.{head_at}
use Rattle.journal.specs.ContentAfter.{content_after}
use Rattle.journal.specs.Recovery.{IsRightRecovery}

-- a reader's refusal by its name here
abbrev pub refused_as : ReadError → RecoverError
refused_as (read.Syntax line) = Syntax line
refused_as read.Truncated = Truncated
refused_as read.OutOfMemory = OutOfMemory

-- the start of the bytes, seen by view, is legal, by the table and in its meaning; or the
-- refusal is right
abbrev pub IsBegun : {X : Type 0} → (X → Content × List ℕ) → List ℕ → Result X RecoverError → Type 0
IsBegun view bytes (Ok x) =
    (head_at bytes ≡ Ok (view x)) × IsLegalText (view x).0 × IsRightText (view x).0
IsBegun view bytes (Err e) = IsRightRecovery bytes (Err e)

-- the value is the recorded history, and legal; or the answer is that of a check of it
abbrev pub IsJudged : Content → List JournalLine → Result Saved CheckError → Type 0
IsJudged began calls (Ok saved) =
    (content saved ≡ content_after began calls) × IsLegalText (content_after began calls)
IsJudged began calls (Err e) = IsRightCheck (content_after began calls) (Err e)

-- there is no fault, or a check reports one of this kind
abbrev pub IsFaultOf : Content → Option Kind → Type 0
IsFaultOf c None = IsLegalText c
IsFaultOf c (Some kind) = (said : ℕ) × IsRightCheck c (Err (check.Bad said kind))

-- the calls are of the rings that the bytes begin with, and with the lines of these they are few
pub record AreCallsOf (bytes : List ℕ) (calls : List JournalLine) : Type 0 where
  pub began : Content
  pub rest : List ℕ
  pub head : head_at bytes ≡ Ok (began, rest)
  pub rings : All (λ (r : JournalLine). r.ring < length began.rings) calls
  pub room : length (lines began) + length calls + 1 < 2 ^ 64
