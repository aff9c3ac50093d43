-- How each line is answered (this project's own).
use Rattle.std.specs.Prelude.{ℕ, List, Bool, true, false, Option, None, Some, ◌≡◌, [], cond, ◌&&◌, Result, Ok, Err}
use Rattle.held_locks.specs.declared.answers.Answers.{Answers}
use Rattle.held_locks.specs.declared.answers.Left.{Left}
use Rattle.held_locks.specs.Locks.{Ask}
use Rattle.held_locks.specs.Kept.{answers_of, IsLeft}
use Rattle.lock_protocol.specs.declared.answers.Denial.{Denial}
use Rattle.lock_protocol.specs.Views.{Input}
use Rattle.lock_protocol.specs.Names.{lock_named}
use Rattle.lock_protocol.specs.declared.inputs.Fault.{Fault}
use Rattle.lock_protocol.specs.Inputs.{IsReadAs}
use Rattle.lock_protocol.specs.Answers.{answer_line, denial_line}
use Rattle.line_service.specs.declared.pending.Pending.{Pending}
use Rattle.line_replica.specs.Replies.{IsAdded}
use Rattle.held_locks.specs.Asked.{IsAnswerTo}
use Rattle.lock_journal.specs.declared.terms.Terms.{Terms}
use Rattle.lock_journal.specs.declared.untold.Untold.{Untold}
use Rattle.lock_journal.specs.Asking.{one_ask, is_off, is_lack}
use Rattle.lock_journal.specs.Counting.{SegmentView, IsCounted, count_about, count_of_all}
use Rattle.lock_journal.specs.Noting.{lines_about, note_about, lines_of_left, notes_of_left}
use Rattle.held_locks.specs.declared.answers.Answer.TheVariants as answer
use Rattle.held_locks.specs.declared.answers.Refusal.TheVariants as refusal
use Rattle.lock_protocol.specs.declared.answers.Denial.TheVariants as denial
use Rattle.lock_protocol.specs.Asks as lines
use Rattle.lock_protocol.specs.declared.inputs.Fault.TheVariants as fault
use Rattle.lock_protocol.specs.Views as input
use Rattle.lock_journal.specs.declared.untold.Untold.TheVariants as untold

-- nothing happens but that this is said
pub record IsSaid (text : List ℕ) (old : SegmentView) (said noted : List ℕ) (new : SegmentView) :
    Type 0 where
  pub says : said ≡ text
  pub notes : noted ≡ []
  pub leaves : new ≡ old

-- A lock answers. The clients that asked or are granted it get their lines, and the journal has
-- what is new. On strict terms nobody is refused for lack of room or memory.
pub record IsToldOf (strict noting : Bool) (client lock : ℕ) (ask : Ask) (old : SegmentView)
    (said noted : List ℕ) (new : SegmentView) : Type 0 where
  pub answers : Answers
  pub done : IsAnswerTo old.locks new.locks client lock ask answers
  pub given : (strict && is_lack answers.own) ≡ false
  pub says : said ≡ lines_about old.names lock (answers_of client answers)
  pub notes : noted ≡ cond noting (note_about lock old.locks new.locks answers.ended) []
  pub counted : IsCounted old new (count_about lock old.locks new.locks answers.ended)

-- A client leaves all locks. The clients that are granted one get their lines, and the journal has
-- what is new.
pub record IsToldOfLeave (noting : Bool) (client : ℕ) (old : SegmentView) (said noted : List ℕ)
    (new : SegmentView) : Type 0 where
  pub left : List Left
  pub done : IsLeft old.locks new.locks client left
  pub says : said ≡ lines_of_left old.names left
  pub notes : noted ≡ cond noting (notes_of_left new.locks left) []
  pub counted : IsCounted old new (count_of_all new.locks left)

-- the lock of this number, if there is one, answers; else it is said that no lock has the name, and
-- nothing happens
abbrev pub IsToldOfNamed : Option ℕ → Bool → Bool → ℕ → List ℕ → Ask → SegmentView → List ℕ
    → List ℕ → SegmentView → Type 0
IsToldOfNamed None strict noting client name ask old said noted new =
    IsSaid (answer_line client name (answer.Refused refusal.Lock)) old said noted new
IsToldOfNamed (Some lock) strict noting client name ask old said noted new =
    IsToldOf strict noting client lock ask old said noted new

-- the lock that has the name answers; or all are left
abbrev pub IsTold : Bool → Bool → ℕ → Option (List ℕ × Ask) → SegmentView → List ℕ → List ℕ
    → SegmentView → Type 0
IsTold strict noting client None old said noted new =
    IsToldOfLeave noting client old said noted new
IsTold strict noting client (Some (name, ask)) old said noted new =
    IsToldOfNamed (lock_named old.names name) strict noting client name ask old said noted new

-- an ask is answered: a fault that is not permitted is refused
abbrev pub IsAnsweredIf : Bool → Terms → ℕ → lines.Ask → SegmentView → List ℕ → List ℕ
    → SegmentView → Type 0
IsAnsweredIf true terms client ask old said noted new =
    IsSaid (denial_line client denial.Off) old said noted new
IsAnsweredIf false terms client ask old said noted new =
    IsTold terms.strict terms.noting client (one_ask ask) old said noted new

-- the refusal of a line that has a fault
abbrev pub denial_of : Fault → Denial
denial_of fault.Syntax = denial.Syntax
denial_of fault.Number = denial.Number

-- what was read of a line is answered
abbrev pub IsInputAnswered : Terms → Input → SegmentView → List ℕ → List ℕ → SegmentView → Type 0
IsInputAnswered terms (input.Asked client ask) old said noted new =
    IsAnsweredIf (is_off terms.faults ask) terms client ask old said noted new
IsInputAnswered terms (input.Refused client why) old said noted new =
    IsSaid (denial_line client (denial_of why)) old said noted new
IsInputAnswered terms input.Nobody old said noted new = IsSaid [] old said noted new

-- A line is answered: by what is read of it.
abbrev pub IsLineAnswered : Terms → SegmentView → List ℕ → List ℕ → List ℕ → SegmentView
    → Type 0
IsLineAnswered terms old line said noted new =
    (i : Input) × IsReadAs line i × IsInputAnswered terms i old said noted new

-- what an answer leaves that is so: it is pending; or there was no memory for it; or, on strict
-- terms, nothing has changed
abbrev pub Leaves : Result (Unit {0}) Untold → (List ℕ → List ℕ → Type 0) → Type 0 → Pending
    → Pending → Type 0
Leaves (Ok _) IsSo same old new =
    (said : List ℕ) × (noted : List ℕ) × IsSo said noted × IsAdded old new said noted
Leaves (Err untold.Answered) IsSo same old new =
    (said : List ℕ) × (noted : List ℕ) × IsSo said noted
Leaves (Err untold.Unanswered) IsSo same old new = same

-- the answer is pending, if there was memory for it
abbrev pub put : {E : Type 0} → Result (Unit {0}) E → Result (Unit {0}) Untold
put (Ok u) = Ok u
put (Err e) = Err untold.Answered
