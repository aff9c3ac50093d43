-- Lines that are served one after the other (this project's own).
use Rattle.std.specs.Prelude.{◌≡◌, ℕ, ◌-◌, Bool, true, false, ◌&&◌, ◌||◌, cond, List, [], ◌++◌, length, take, drop, Option, None, Some, IfSome, Result, Ok, Err, ◌⊎◌}
use Rattle.std.specs.Option.{option_map, is_some}
use Rattle.std.specs.Io.KnownBytes.{Consumes, IsAtEnd}
use Rattle.disks.specs.Held.{Held, IsOneFile, Replaces}
use Rattle.line_service.specs.Answering as lined
use Rattle.line_service.specs.Answering.{HasNoEnd}
use Rattle.line_service.specs.Loop as loop
use Rattle.line_service.specs.Loop.{Written, AreTold}
use Rattle.line_service.specs.Stands.{stand, by_stand}
use Rattle.line_service.specs.declared.pending.Pending.{Pending}
use Rattle.saved_history.specs.Spelling.{text}
use Rattle.ring_check.specs.Legal.{IsLegalText}
use Rattle.ring_service.specs.Answers.{answer_line}
use Rattle.ring_service.specs.declared.answers.Answer.{Answer}
use Rattle.ring_service.specs.declared.answers.Answer.TheVariants as answer
use Rattle.ring_service.specs.declared.answers.Refusal.{Refusal}
use Rattle.ring_service.specs.declared.answers.Refusal.TheVariants as refusal
use Rattle.ring_service.specs.declared.serving.Journal.{Journal}
use Rattle.ring_service.specs.Due.{is_due_at}
use Rattle.ring_service.specs.Permits.{Terms, IsOpen, is_plain, file_in}
use Rattle.ring_service.specs.Standings.{Standing}
use Rattle.ring_service.specs.Saved.{content_of}
use Rattle.ring_service.specs.Turns.{Turn, refused, IsTurnOfLine}
use Rattle.ring_service.specs.Notes.{notes_of}

-- the name in a line after the word `save`: the bytes up to its LF
abbrev pub name_in : List ℕ → List ℕ
name_in line = drop 5 (take (length line - 1) line)

-- The file of this name is not the one of the other name, if there is such a name and it is known
-- where names lead.
abbrev pub IsApartFrom : Option Held → Option (List ℕ) → List ℕ → Type 0
IsApartFrom files other file =
    IfSome files (λ held. IfSome other (λ name. IsOneFile held name file → ⊥))

-- The file of this name holds the text of the rings, which is legal, it is neither the journal's nor
-- the history's, and that is the answer; or this was not done, no file has changed, and that is the
-- refusal.
abbrev pub IsSaved : Option (List ℕ) → Option (List ℕ) → Option Held → Option Held → List ℕ
    → List Standing → Answer → Type 0
IsSaved journal history was is file rings given =
    ((given ≡ answer.Saved)
    × Replaces was is file (Some (text (content_of rings)))
    × IsLegalText (content_of rings)
    × IsApartFrom was journal file
    × IsApartFrom was history file)
    ⊎ ((given ≡ answer.Refused refusal.File) × (is ≡ was))

-- All rings are to be saved: in the folder that this is permitted in, if the name is a plain one.
-- Where it is permitted in none, or the name is not plain, that is the refusal.
abbrev pub IsSaveGiven : Option (List ℕ) → Option (List ℕ) → Option (List ℕ) → Option Held
    → Option Held → List ℕ → List Standing → Answer → Type 0
IsSaveGiven journal history None was is name rings given =
    (given ≡ answer.Refused refusal.Off) × (is ≡ was)
IsSaveGiven journal history (Some folder) was is name rings given =
    ((is_plain name ≡ true) × IsSaved journal history was is (file_in folder name) rings given)
    ⊎ ((is_plain name ≡ false) × (given ≡ answer.Refused refusal.Name) × (is ≡ was))

-- A turn that asks for the rings to be saved is answered by what came of that. Every other turn is
-- answered as it says, and no file changes.
abbrev pub IsGiven : Option (List ℕ) → Option (List ℕ) → Option (List ℕ) → Option Held
    → Option Held → List ℕ → List Standing → Answer → Answer → Type 0
IsGiven journal history saves was is name rings answer.Saved given =
    IsSaveGiven journal history saves was is name rings given
IsGiven journal history saves was is name rings asked given = (given ≡ asked) × (is ≡ was)

-- The turn of a line: its own, or the refusal if every line is refused.
abbrev pub IsTurnOn : Option Refusal → Bool → List Standing → List ℕ → Turn (List Standing)
    → Type 0
IsTurnOn None faults rings line turn = IsTurnOfLine faults rings line turn
IsTurnOn (Some why) faults rings line turn = turn ≡ refused rings why

-- whether a line is refused since memory is short
abbrev pub is_memory : Answer → Bool
is_memory (answer.Refused refusal.OutOfMemory) = true
is_memory _ = false

-- on strict terms a line is not answered so, nor while every line is refused
abbrev pub is_stop : Terms → Answer → Bool
is_stop terms asked = terms.strict && (is_some terms.refusing || is_memory asked)

-- One line answered, from the rings and the files as they are to those after it: by its turn.
-- It says the answer's line, and notes, if a journal is kept, the lines of the records of
-- the turn.
pub record IsAnswered (terms : Terms) (old : List Standing) (was : Option Held)
    (line said noted : List ℕ) (new : List Standing) (is : Option Held) : Type 0 where
  pub turn : Turn (List Standing)
  pub given : Answer
  pub goes : IsOpen terms old
  pub of_line : IsTurnOn terms.refusing terms.faults old line turn
  pub heeded : is_stop terms turn.answer ≡ false
  pub gives : IsGiven terms.journal terms.history terms.saves was is (name_in line) new turn.answer
      given
  pub says : said ≡ answer_line given
  pub notes : noted ≡ cond (is_some terms.journal) (notes_of turn.recorded) []
  pub leaves : turn.leaves ≡ new

-- what an answer leaves that is so: it is pending; or, at an error, it is not, and nothing has
-- changed or the line is answered
abbrev pub IsMade : {E : Type 0} → Result (Unit {0}) E → Type 0 → (List ℕ → List ℕ → Type 0)
    → Pending → Pending → Type 0
IsMade (Ok _) same IsSo old new =
    (said : List ℕ)
    × (noted : List ℕ)
    × IsSo said noted
    × (new.answers.items ≡ old.answers.items ++ said)
    × (new.notes.items ≡ old.notes.items ++ noted)
IsMade (Err _) same IsSo old new =
    same ⊎ ((said : List ℕ) × (noted : List ℕ) × IsSo said noted)

-- The rings answer these lines on these terms, one after the other, with this text, and these are
-- the notes.
abbrev pub Answers : Terms → List Standing → Option Held → List (List ℕ) → List ℕ → List ℕ
    → List Standing → Option Held → Type 0
Answers terms old was lines said noted new is =
    lined.Answers (by_stand (IsAnswered terms)) (stand old was) lines said noted (stand new is)

-- what a journal holds; nothing is known of it where none is kept
abbrev pub held_by : {J : Type 0} → (J → Option (List ℕ)) → Option (Journal J) → Option (List ℕ)
held_by contents journal = loop.written_by (λ j. contents j.writer) journal

-- the name of its file, if one is kept
abbrev pub named_by : {J : Type 0} → Option (Journal J) → Option (List ℕ)
named_by journal = option_map (λ j. j.name.now) journal

-- Served so far, on these terms: some lines were delivered, and those after them were answered. So
-- each delivered line is in the journal, wherever this ended.
abbrev pub Stops : Terms → List Standing → Option Held → Written → Written → List ℕ
    → List Standing → Option Held → Type 0
Stops terms old was before after bytes new is =
    loop.Stops (by_stand (IsAnswered terms)) (stand old was) before after bytes (stand new is)

-- whether no line is answered any more, as the code sees it after a line that called the ring of
-- this number
abbrev pub is_over_at : Option Refusal → Option ℕ → List Standing → ℕ → Bool
is_over_at None limit rings ring = is_due_at limit rings ring
is_over_at (Some why) limit rings ring = false

-- The whole input was served: each whole line of it was delivered, and no line ended after those.
pub record ServesAll (terms : Terms) (old new : List Standing) (was is : Option Held)
    (unread rest : Option (List ℕ)) (before after : Written) : Type 0 where
  pub bytes : List ℕ
  pub begun : List ℕ
  pub read : Consumes unread rest bytes
  pub ended : IsAtEnd rest
  pub partial : HasNoEnd begun
  pub told : AreTold (by_stand (IsAnswered terms)) (stand old was) before after bytes begun
      (stand new is)

-- Of what the reader gave some lines were answered.
abbrev pub ServesSome : Terms → List Standing → List Standing → Option Held → Option Held
    → Option (List ℕ) → Option (List ℕ) → Written → Written → Type 0
ServesSome terms old new was is unread rest before after =
    (bytes : List ℕ) × Consumes unread rest bytes × Stops terms old was before after bytes new is
