-- The life of locks: runs over one folder, each ended at any moment, as one list of inputs of the
-- machine of locks (this project's own).
use Rattle.std.specs.Prelude.{ℕ, List, Bool, true, false, Option, None, Some, ◌≡◌, [], ◌∷◌, length, ◌⊎◌, ◌++◌, map, if◌then◌else◌}
use Rattle.std.specs.List.{AllByRecursion}
use Rattle.journal.specs.Recovery.{IsRecovered}
use Rattle.saved_history.specs.Content.{Content}
use Rattle.endless_ring.specs.Endless.{EndlessView}
use Rattle.ring_service.specs.Segments.{bases_of}
use Rattle.ring_service.specs.Recovered.{IsPrefix}
use Rattle.held_locks.specs.declared.answers.Answer.{Answer}
use Rattle.held_locks.specs.declared.answers.Refusal.{Refusal}
use Rattle.held_locks.specs.Queues.{Lock}
use Rattle.held_locks.specs.Locks.{Ask, Cancel, Restart, step, Asked, Input}
use Rattle.held_locks.specs.Promises.{locks_after, leaves, AreRight}
use Rattle.held_locks.specs.Kept.{LockView, locks_of, AreKept}
use Rattle.held_locks.specs.Cuts.{AreNext}
use Rattle.lock_protocol.specs.declared.answers.Denial.{Denial}
use Rattle.lock_protocol.specs.Names.{Names, name_of, lock_named}
use Rattle.lock_protocol.specs.Inputs.{IsReadAs}
use Rattle.lock_protocol.specs.Answers.{answer_line, denial_line}
use Rattle.lock_journal.specs.declared.terms.Terms.{Terms}
use Rattle.lock_journal.specs.Asking.{one_ask}
use Rattle.lock_journal.specs.Begun.{begun_text, HaveBegun, AreAnswered}
use Rattle.lock_journal.specs.Counting.{SegmentView}
use Rattle.lock_journal.specs.Recovered.{AreMadeOf, AreAdded}
use Rattle.lock_journal.specs.Segments.{rings_of}
use Rattle.lock_journal.specs.Told.{Telling, text_of}
use Rattle.lock_protocol.specs.Asks as asks
use Rattle.lock_protocol.specs.Views as input
use Rattle.held_locks.specs.declared.answers.Answer.TheVariants as answer
use Rattle.held_locks.specs.declared.answers.Refusal.TheVariants as refusal

-- ---- what lines ask of the machine, and what is answered

-- the inputs of an ask: one, of the lock that has the name, or where all locks are left a leave of
-- each
abbrev pub AreInputsOf : Names → ℕ → ℕ → Option (List ℕ × Ask) → List Input → Type 0
AreInputsOf names count client None is = is ≡ leaves client count
AreInputsOf names count client (Some (name, ask)) is =
    (lock : ℕ) × (lock_named names name ≡ Some lock) × (is ≡ Asked client lock ask ∷ [])

-- answers about a lock; and all answers of the machine to these inputs, in order
abbrev pub about : ℕ → List (ℕ × Answer) → List Telling
about lock answers =
    map (λ (a : ℕ × Answer). record { client = a.0; lock = lock; said = a.1 }) answers

abbrev pub tellings : List Lock → List Input → List Telling
tellings ls [] = []
tellings ls (Asked c i ask ∷ is) =
    about i (step ls (Asked c i ask)).answers ++ tellings (step ls (Asked c i ask)).locks is
tellings ls (Restart ∷ is) = tellings (step ls Restart).locks is

-- The machine took all that a line asks, and just its answers were said.
pub record IsTaken (names : Names) (ls : List Lock) (line said : List ℕ) (is : List Input) :
    Type 0 where
  pub client : ℕ
  pub ask : asks.Ask
  pub read : IsReadAs line (input.Asked client ask)
  pub inputs : AreInputsOf names (length ls) client (one_ask ask) is
  pub says : said ≡ text_of names (tellings ls is)

-- the line asks something of a lock, whose name none has, and that is said
pub record IsOfNone (names : Names) (line said : List ℕ) : Type 0 where
  pub client : ℕ
  pub ask : asks.Ask
  pub read : IsReadAs line (input.Asked client ask)
  pub name : List ℕ
  pub what : Ask
  pub asks : one_ask ask ≡ Some (name, what)
  pub none : lock_named names name ≡ None
  pub says : said ≡ answer_line client name (answer.Refused refusal.Lock)

-- nothing was said of a line of nobody; or a denial, or that no lock has the name, or that a client
-- is refused for lack of room or of memory
abbrev pub IsNoAnswer : Names → List ℕ → List ℕ → Type 0
IsNoAnswer names line said =
    (IsReadAs line input.Nobody × (said ≡ []))
    ⊎ (((client : ℕ) × (why : Denial) × (said ≡ denial_line client why))
    ⊎ (IsOfNone names line said
    ⊎ ((client lock : ℕ)
    × (why : Refusal)
    × ((why ≡ refusal.Full) ⊎ (why ≡ refusal.Memory))
    × (said ≡ answer_line client (name_of names lock) (answer.Refused why)))))

-- Lines were answered one after the other: of each the machine took all inputs, or none.
abbrev pub AreHeard : Names → List Lock → List (List ℕ) → List ℕ → List Input → Type 0
AreHeard names ls [] said is = (said ≡ []) × (is ≡ [])
AreHeard names ls (line ∷ lines) said is =
    (first later : List ℕ)
    × (now next : List Input)
    × (IsTaken names ls line first now ⊎ (IsNoAnswer names line first × (now ≡ [])))
    × (said ≡ first ++ later)
    × (is ≡ now ++ next)
    × AreHeard names (locks_after ls now) lines later next

-- ---- one run, or as much of it as is in one segment of the journal

-- What is known of it: on which terms lines were answered, and with which locks it began; the lines
-- that were delivered and the locks after them; the lines after those, which were answered but not
-- delivered; what the output got, and what is kept of the journal; and whether the run ended with
-- it.
pub record Stage : Type 0 where
  pub terms : Terms
  pub start : SegmentView
  pub told : List (List ℕ)
  pub mid : SegmentView
  pub untold : List (List ℕ)
  pub end : SegmentView
  pub out : List ℕ
  pub journal : List ℕ
  pub killed : Bool

-- a client gives up waiting for this lock, as at a restart all do
abbrev pub IsGivenUp : ℕ → Input → Type 0
IsGivenUp lock (Asked c i Cancel) = i ≡ lock
IsGivenUp lock _ = ⊥

-- The journal ended in the midst of an input: the clients that waited for its lock had given up
-- before it.
pub record AreKeptAmid (asked kept : List Input) : Type 0 where
  pub front : List Input
  pub client : ℕ
  pub lock : ℕ
  pub ask : Ask
  pub back : List Input
  pub given_up : List Input
  pub asked_is : asked ≡ front ++ Asked client lock ask ∷ back
  pub kept_is : kept ≡ front ++ (given_up ++ Asked client lock ask ∷ [])
  pub each : AllByRecursion (IsGivenUp lock) given_up

-- of the inputs whose answers were not delivered the first were kept
abbrev pub AreKeptOf : List Input → List Input → Type 0
AreKeptOf asked kept = IsPrefix kept asked ⊎ AreKeptAmid asked kept

-- Of these locks: the output has no more than the answers to the delivered lines, in order. These
-- inputs are all of the delivered lines, and those that were kept of the others.
pub record IsLockRun (ls : List Lock) (s : Stage) (is : List Input) : Type 0 where
  pub heard : List Input
  pub said : List ℕ
  pub asked : List Input
  pub unsaid : List ℕ
  pub kept : List Input
  pub told_so : AreHeard s.start.names ls s.told said heard
  pub out_is : IsPrefix s.out said
  pub untold_so : AreHeard s.start.names (locks_after ls heard) s.untold unsaid asked
  pub kept_so : AreKeptOf asked kept
  pub inputs : is ≡ heard ++ kept

-- ---- the life

-- what comes after a run: a restart where the run ended; where the next segment began, nothing
abbrev pub behind : Stage → List Input
behind s = if s.killed then Restart ∷ [] else []

-- One list of inputs, from the first locks on: each run is that of some of them, in order, with a
-- restart between runs, and begins with the locks after all inputs before it.
abbrev pub IsLockLife : List Lock → Stage → List Stage → List Input → Type 0
IsLockLife ls s [] is = (locks_of s.start.locks ≡ ls) × IsLockRun ls s is
IsLockLife ls s (next ∷ more) is =
    (locks_of s.start.locks ≡ ls)
    × ((now later : List Input)
    × IsLockRun ls s now
    × (is ≡ now ++ (behind s ++ later))
    × IsLockLife (locks_after ls (now ++ behind s)) next more later)

-- ---- what the program promises of runs, by its own clauses

-- Lines were answered, delivered and noted so, and what is kept of the journal has the notes of the
-- delivered lines; no fault is permitted.
pub record IsStage (s : Stage) : Type 0 where
  pub said : List ℕ
  pub noted : List ℕ
  pub unsaid : List ℕ
  pub notes : List ℕ
  pub entries : List (ℕ × ℕ)
  pub begun : HaveBegun s.start.locks
  pub answered : AreAnswered s.terms s.start s.told said noted s.mid
  pub more : AreAnswered s.terms s.mid s.untold unsaid notes s.end
  pub right : AreKept s.end.locks entries
  pub plain : s.terms.faults ≡ false
  pub out_is : IsPrefix s.out said
  pub has_told : IsPrefix (begun_text s.start.locks ++ noted) s.journal
  pub no_more : IsPrefix s.journal (begun_text s.start.locks ++ (noted ++ notes))

-- these locks start of what is recovered of a journal, in which others began
pub record AreFound (start : List LockView) (journal : List ℕ) (found : List LockView) : Type 0 where
  pub history : Content
  pub recovered : IsRecovered journal history
  pub rings : List EndlessView
  pub made : AreMadeOf (bases_of (rings_of start)) history.rings rings
  pub added : AreAdded [] rings found

-- the next one follows: the run was ended and its locks found again, or its segment ended, and the
-- locks have the same names
abbrev pub Follows : Bool → Stage → Stage → Type 0
Follows true s next = AreFound s.start.locks s.journal next.start.locks
Follows false s next =
    (s.untold ≡ [])
    × AreNext s.mid.locks next.start.locks
    × (next.start.names ≡ s.start.names)

-- runs, one after the other
abbrev pub AreStages : Stage → List Stage → Type 0
AreStages s [] = IsStage s
AreStages s (next ∷ more) = IsStage s × Follows s.killed s next × AreStages next more

-- A law: runs of the program are a life, of one list of inputs.
abbrev pub RunsAreALife : Type 0
RunsAreALife =
    (s : Stage) (more : List Stage) → AreStages s more
    → (is : List Input) × AreRight (locks_of s.start.locks) × IsLockLife (locks_of s.start.locks) s more is
