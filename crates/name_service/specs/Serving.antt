-- How each line about a name is answered (this project's own).
use Rattle.std.specs.Prelude.{◌≡◌, ℕ, Bool, true, false, cond, ◌&&◌, ◌||◌, List, [], ◌++◌, Option, None, Some, is_some, option_map}
use Rattle.disks.specs.Held.{Held}
use Rattle.held_locks.specs.Locks.{Ask}
use Rattle.held_locks.specs.declared.answers.Answer.TheVariants as answer
use Rattle.held_locks.specs.declared.answers.Refusal.TheVariants as refusal
use Rattle.held_locks.specs.Kept.{AreKept}
use Rattle.lock_protocol.specs.declared.answers.Denial.TheVariants as denial
use Rattle.lock_protocol.specs.Views.{Input}
use Rattle.lock_protocol.specs.Views as input
use Rattle.lock_protocol.specs.Asks as lines
use Rattle.lock_protocol.specs.Inputs.{IsReadAs}
use Rattle.lock_protocol.specs.Answers.{answer_line, denial_line}
use Rattle.lock_names.specs.declared.replies.Reply.{Reply}
use Rattle.lock_names.specs.declared.replies.NameAnswers.{NameAnswers}
use Rattle.lock_names.specs.Kept.{own_said, grant_said, IsAsked, IsKeptNamed}
use Rattle.lock_names.specs.Leaves.{said_left, IsLeftByName}
use Rattle.name_service.specs.declared.service.NameService.{NameService}
use Rattle.name_service.specs.declared.service.NameTerms.{NameTerms}
use Rattle.lock_journal.specs.Asking.{one_ask, is_off}
use Rattle.lock_journal.specs.Due.{is_due}
use Rattle.lock_journal.specs.Counting.{count_of_all}
use Rattle.lock_journal.specs.Stages.{is_to_end, stage_after}
use Rattle.lock_journal.specs.Answering.{denial_of}
pub use Rattle.name_service.specs.Naming.{reply_told, is_name_lack}
use Rattle.name_service.specs.Naming.{NamingView, IsNameCounted, count_at, is_no_lock, is_wanting}
use Rattle.name_service.specs.Noting.{lines_of_said, note_at, notes_of_names_left}

-- nothing happens but that this is said
pub record IsOnlySaid (text : List ℕ) (old : NamingView) (said noted : List ℕ) (new : NamingView) :
    Type 0 where
  pub says : said ≡ text
  pub notes : noted ≡ []
  pub leaves : new ≡ old

-- the reply as the client gets it
abbrev pub own_told : NameTerms → NamingView → NameAnswers → Option Reply
own_told terms old r = option_map (reply_told (is_wanting terms.most old.named)) r.own

-- A name answers. The clients that asked or are granted it get their lines, and the journal has what
-- is new. On strict terms nobody is refused for lack of room or memory.
pub record IsNameToldOf (terms : NameTerms) (client : ℕ) (name : List ℕ) (ask : Ask)
    (old : NamingView) (said noted : List ℕ) (new : NamingView) : Type 0 where
  pub answers : NameAnswers
  pub done : IsAsked old.named new.named client name ask answers
  pub given : (terms.lines.strict && is_name_lack (own_told terms old answers)) ≡ false
  pub says : said
      ≡ lines_of_said (own_said client name (own_told terms old answers)
      ++ grant_said name answers.granted)
  pub notes : noted
      ≡ cond terms.lines.noting (note_at answers.ring old.named new.named name answers) []
  pub counted : IsNameCounted old new (count_at answers.ring old.named new.named answers)

-- A client leaves all names. The clients that are granted one get their lines, and the journal has
-- what is new.
pub record IsNameToldOfLeave (noting : Bool) (client : ℕ) (old : NamingView)
    (said noted : List ℕ) (new : NamingView) : Type 0 where
  pub done : IsLeftByName old.named new.named client new.left
  pub says : said ≡ lines_of_said (said_left old.named.names new.left)
  pub notes : noted
      ≡ cond noting (notes_of_names_left old.named.fixed new.named.locks new.left) []
  pub counted : IsNameCounted old new (count_of_all new.named.locks new.left)

-- the name answers; or, where no lock has it and the list has no pool, that is said and nothing happens
abbrev pub IsNameToldIf : Bool → NameTerms → ℕ → List ℕ → Ask → NamingView → List ℕ → List ℕ
    → NamingView → Type 0
IsNameToldIf true terms client name ask old said noted new =
    IsOnlySaid (answer_line client name (answer.Refused refusal.Lock)) old said noted new
IsNameToldIf false terms client name ask old said noted new =
    IsNameToldOf terms client name ask old said noted new

-- a name is asked; or all are left
abbrev pub IsNameTold : NameTerms → ℕ → Option (List ℕ × Ask) → NamingView → List ℕ → List ℕ
    → NamingView → Type 0
IsNameTold terms client None old said noted new =
    IsNameToldOfLeave terms.lines.noting client old said noted new
IsNameTold terms client (Some (name, ask)) old said noted new =
    IsNameToldIf (is_no_lock terms.most old.named name ask) terms client name ask old said noted new

-- an ask is answered: a fault that is not permitted is refused
abbrev pub IsNameAnsweredIf : Bool → NameTerms → ℕ → lines.Ask → NamingView → List ℕ → List ℕ
    → NamingView → Type 0
IsNameAnsweredIf true terms client ask old said noted new =
    IsOnlySaid (denial_line client denial.Off) old said noted new
IsNameAnsweredIf false terms client ask old said noted new =
    IsNameTold terms client (one_ask ask) old said noted new

-- what an ask that was read of a line names is a name
abbrev pub IsNamedInput : Input → Type 0
IsNamedInput (input.Asked client ask) = lines.HasName ask
IsNamedInput _ = Unit {0}

-- what was read of a line is answered
abbrev pub IsNameInputAnswered : NameTerms → Input → NamingView → List ℕ → List ℕ → NamingView
    → Type 0
IsNameInputAnswered terms (input.Asked client ask) old said noted new =
    IsNameAnsweredIf (is_off terms.lines.faults ask) terms client ask old said noted new
IsNameInputAnswered terms (input.Refused client why) old said noted new =
    IsOnlySaid (denial_line client (denial_of why)) old said noted new
IsNameInputAnswered terms input.Nobody old said noted new = IsOnlySaid [] old said noted new

-- A line is answered: by what is read of it.
abbrev pub IsNameLineAnswered : NameTerms → NamingView → List ℕ → List ℕ → List ℕ → NamingView
    → Type 0
IsNameLineAnswered terms old line said noted new =
    (i : Input) × IsReadAs line i × IsNameInputAnswered terms i old said noted new

-- ---- the service

-- whether its segment is due, where segments have a limit: also when a ring is wanted
abbrev pub is_name_past : NameTerms → NamingView → Bool
is_name_past terms s =
    is_some terms.lines.limit
    && (is_due s.remaining s.short || is_wanting terms.most s.named)

-- on strict terms no line is answered in a segment that is to end
abbrev pub IsNameOpen : NameService → Type 0
IsNameOpen s = (s.terms.lines.strict && is_to_end s.stage) ≡ false

-- what was read of a line is answered by the service, on the same terms
pub record AnswersNameInput (old : NameService) (i : Input) (said noted : List ℕ)
    (new : NameService) : Type 0 where
  pub goes : IsNameOpen old
  pub answered : IsNameInputAnswered old.terms i old.segment said noted new.segment
  pub terms : new.terms ≡ old.terms
  pub stage : new.stage ≡ stage_after old.stage (is_name_past old.terms new.segment)

-- the locks of the service are kept, and their names are right
pub record IsNameKept (s : NameService) : Type 0 where
  pub entries : List (ℕ × ℕ)
  pub locks : AreKept s.segment.named.locks entries
  pub names : IsKeptNamed s.segment.named

-- from one state of the service to another a line was answered, on the same terms; no file has
-- changed, and the locks are kept
pub record IsNameServed (old : NameService) (was : Option Held) (line said noted : List ℕ)
    (new : NameService) (is : Option Held) : Type 0 where
  pub goes : IsNameOpen old
  pub answered : IsNameLineAnswered old.terms old.segment line said noted new.segment
  pub terms : new.terms ≡ old.terms
  pub stage : new.stage ≡ stage_after old.stage (is_name_past old.terms new.segment)
  pub files : is ≡ was
  pub kept : IsNameKept new
