-- What a program of locks by any name says of its lines, as answers of one machine with names (this
-- project's own).
use Rattle.std.specs.Prelude.{◌≡◌, ◌≤◌, ℕ, Bool, false, List, [], ◌∷◌, ◌++◌, map, length, Option, None, Some, ◌⊎◌}
use Rattle.std.specs.List.{flat_map}
use Rattle.line_service.specs.Answering.{Answers}
use Rattle.line_service.specs.Stands.{AnsweringWith}
use Rattle.line_service.specs.Segmenting.{Segmenting}
use Rattle.line_service.specs.Segments.{Moment}
use Rattle.line_service.specs.Service.{Part, AreParts, all_lines, all_said}
use Rattle.line_replica.specs.declared.replica.Replica.{Replica}
use Rattle.line_replica.specs.declared.restorable.Restorable.{Restorable}
use Rattle.line_replica.specs.Log.{numbers_of, given}
use Rattle.line_replica.specs.Replies.{IsReplied}
use Rattle.line_replica.specs.Segmented as around
use Rattle.line_replica.specs.Restoring as behind
use Rattle.line_replica.specs.State.{lines_of, IsRestorable}
use Rattle.ring_model.specs.History.{State}
use Rattle.held_locks.specs.Locks.{Ask}
use Rattle.lock_protocol.specs.declared.answers.Denial.{Denial}
use Rattle.held_locks.specs.declared.answers.Answer.TheVariants as answer
use Rattle.held_locks.specs.declared.answers.Refusal.{Refusal}
use Rattle.held_locks.specs.declared.answers.Refusal.TheVariants as refusal
use Rattle.lock_protocol.specs.Asks as lines
use Rattle.lock_protocol.specs.Views as input
use Rattle.lock_protocol.specs.Inputs.{IsReadAs}
use Rattle.lock_protocol.specs.Answers.{answer_line, denial_line}
use Rattle.lock_names.specs.Names.{Named, NamedInput, Of, More, Said, named_after, said_after, leave_each}
use Rattle.lock_names.specs.Promises.{AreAllowed}
use Rattle.lock_names.specs.Kept.{named_of, reached}
use Rattle.lock_journal.specs.Asking.{one_ask}
use Rattle.lock_journal.specs.Replicas.{AreToldAround, AreToldAfter, others_of}
use Rattle.name_service.specs.declared.service.NameService.{NameService}
use Rattle.name_service.specs.declared.service.NameTerms.{NameTerms}
use Rattle.name_service.specs.Naming.{NamingView, reply_told}
use Rattle.name_service.specs.Noting.{lines_of_said}
use Rattle.name_service.specs.Serving.{IsNameLineAnswered, IsNameServed}
use Rattle.name_service.specs.Segmented.{name_segmenting}
use Rattle.name_service.specs.State.{name_state_lines}

-- ---- lines

-- the inputs of what a line asks: one, of its name; or, where all names are left, a leave of each
abbrev pub inputs_of : Named → ℕ → Option (List ℕ × Ask) → List NamedInput
inputs_of s client None = leave_each client s.names
inputs_of s client (Some (name, ask)) = Of client name ask ∷ []

-- what is said to a client, as the client gets it: `refused full` for `refused names`, while the pool
-- is to get more rings
abbrev pub as_told_while : Bool → Said → Said
as_told_while wanting d = record {
  client = d.client;
  name = d.name;
  reply = reply_told wanting d.reply;
}

-- The machine took all that a line asks, and just what it answered was said.
pub record IsHeard (s : Named) (line said : List ℕ) (is : List NamedInput) : Type 0 where
  pub client : ℕ
  pub ask : lines.Ask
  pub read : IsReadAs line (input.Asked client ask)
  pub inputs : is ≡ inputs_of s client (one_ask ask)
  pub wanting : Bool
  pub says : said ≡ lines_of_said (map (as_told_while wanting) (said_after s is))

-- it was said that there is no lock of this name: there is no ring of a pool, and the ask reaches none
pub record IsNoLock (s : Named) (line said : List ℕ) : Type 0 where
  pub client : ℕ
  pub ask : lines.Ask
  pub read : IsReadAs line (input.Asked client ask)
  pub name : List ℕ
  pub of : Ask
  pub one : one_ask ask ≡ Some (name, of)
  pub pool : length s.locks ≤ s.fixed
  pub none : reached s name of ≡ None
  pub says : said ≡ answer_line client name (answer.Refused refusal.Lock)

-- nothing was said of a line of nobody; or a denial; or that there is no such lock; or that a client is
-- refused for lack of room or of memory
abbrev pub IsUnheard : Named → List ℕ → List ℕ → Type 0
IsUnheard s line said =
    (IsReadAs line input.Nobody × (said ≡ []))
    ⊎ (((client : ℕ) × (why : Denial) × (said ≡ denial_line client why))
    ⊎ (IsNoLock s line said
    ⊎ ((client : ℕ)
    × (name : List ℕ)
    × (why : Refusal)
    × ((why ≡ refusal.Full) ⊎ (why ≡ refusal.Memory))
    × (said ≡ answer_line client name (answer.Refused why)))))

-- Lines were answered one after the other: of each the machine took all inputs, or none.
abbrev pub AreHeard : Named → List (List ℕ) → List ℕ → List NamedInput → Type 0
AreHeard s [] said is = (said ≡ []) × (is ≡ [])
AreHeard s (line ∷ all) said is =
    (first later : List ℕ)
    × (now next : List NamedInput)
    × (IsHeard s line first now ⊎ (IsUnheard s line first × (now ≡ [])))
    × (said ≡ first ++ later)
    × (is ≡ now ++ next)
    × AreHeard (named_after s now) all later next

-- A law: so lines about names are answered, and the machine has the names after them.
abbrev pub NameLinesAreHeard : Type 0
NameLinesAreHeard =
    (terms : NameTerms) (old new : NamingView) (all : List (List ℕ)) (said noted : List ℕ)
    → Answers (IsNameLineAnswered terms) old all said noted new
    → (is : List NamedInput)
    × AreHeard (named_of old.named) all said is
    × (named_of new.named ≡ named_after (named_of old.named) is)

-- ---- the program

-- a replica of locks by any name, whose state is answered where it is asked for; how it answers a
-- line, and how it lives in segments
abbrev pub NamesService : Type 0
NamesService = Restorable (Replica NameService)

abbrev pub names_answering : AnsweringWith NamesService
names_answering = IsRestorable (IsReplied IsNameServed) (lines_of name_state_lines)

abbrev pub names_by_segments : Segmenting NamesService
names_by_segments = behind.segmenting (around.segmenting name_segmenting)

-- the machine with its names
abbrev pub machine_in : NamesService → Named
machine_in s = named_of s.inner.numbered.inner.segment.named

-- rings of fixed locks come before those of the pool
abbrev pub FixedAreFirst : Named → Type 0
FixedAreFirst s = s.fixed ≤ length s.locks

-- the lines of parts
abbrev pub lines_in : {S : Type 0} → List (Part S) → List (List ℕ)
lines_in [] = []
lines_in (p ∷ ps) = p.lines ++ lines_in ps

-- ---- runs

-- The pool got these rings, where a segment ended and the next one began, or none.
pub record HasGrown (s : Named) (rings : List (State ℕ)) (after : Named) : Type 0 where
  pub allowed : AreAllowed s (map More rings)
  pub is : after ≡ named_after s (map More rings)

-- of a run the lines in one segment: the rings that the pool got before them, the lines that the
-- names inside were given, and what these said
pub record Stretch : Type 0 where
  pub rings : List (State ℕ)
  pub told : List (List ℕ)
  pub out : List ℕ

abbrev pub told_of : List Stretch → List (List ℕ)
told_of run = flat_map (λ (p : Stretch). p.told) run

abbrev pub said_of : List Stretch → List ℕ
said_of run = flat_map (λ (p : Stretch). p.out) run

-- one after the other they are this list of inputs
abbrev pub AreStretches : Named → List Stretch → List NamedInput → Type 0
AreStretches s [] is = is ≡ []
AreStretches s (p ∷ ps) is =
    (now later : List NamedInput)
    × AreHeard (named_after s (map More p.rings)) p.told p.out now
    × (is ≡ map More p.rings ++ (now ++ later))
    × AreStretches (named_after s (map More p.rings ++ now)) ps later

-- From one service to another these lines were answered, with this text. One machine with names took
-- these inputs: the lines that are new, and rings of the pool. What it answered was said; else the
-- replica said something of its own, or the state was answered.
pub record IsNamedLife (old new : NamesService) (all : List (List ℕ)) (said : List ℕ)
    (is : List NamedInput) : Type 0 where
  pub run : List Stretch
  pub heard : AreStretches (machine_in old) run is
  pub allowed : AreAllowed (machine_in old) is
  pub ends : machine_in new ≡ named_after (machine_in old) is
  pub told : told_of run ≡ given (numbers_of old.inner.numbered.keys) (others_of all)
  pub replied : List ℕ
  pub replied_so : AreToldAfter all said replied
  pub said_so : AreToldAround (numbers_of old.inner.numbered.keys) (others_of all) replied
      (said_of run)

-- A law: lines that are delivered in parts are so, if no answer was lost up to the last of them.
abbrev pub PartsAreNamedLife : Type 0
PartsAreNamedLife =
    (folder : List ℕ) (a b : Moment NamesService) (parts : List (Part NamesService))
    → FixedAreFirst (machine_in a.service) → b.service.inner.lost ≡ false
    → AreParts names_answering names_by_segments folder a parts b
    → (is : List NamedInput)
    × IsNamedLife a.service b.service (lines_in parts) (all_said parts) is

-- A law: where no line is delivered the machine got rings, or nothing.
abbrev pub EmptyPartsGrow : Type 0
EmptyPartsGrow =
    (folder : List ℕ) (a b : Moment NamesService) (parts : List (Part NamesService))
    → FixedAreFirst (machine_in a.service) → all_lines parts ≡ []
    → AreParts names_answering names_by_segments folder a parts b
    → (rings : List (State ℕ)) × HasGrown (machine_in a.service) rings (machine_in b.service)
