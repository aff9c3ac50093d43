-- A run of a program of locks, in segments, as stages of a life (this project's own).
use Rattle.std.specs.Prelude.{ℕ, List, true, false, Option, Some, ◌≡◌, ◌+◌, [], ◌∷◌, ◌++◌, ◌≤◌, IsSome}
use Rattle.std.specs.List.{flat_map, AllByRecursion}
use Rattle.disks.specs.Held.{Held, bytes_of, is_there}
use Rattle.line_service.specs.SegmentNames.{segment_file, IsNumber}
use Rattle.line_service.specs.Answering.{IsLine, Answers}
use Rattle.line_service.specs.Stands.{AnsweringWith, by_stand, stand}
use Rattle.line_service.specs.Segmenting.{Segmenting}
use Rattle.line_service.specs.Segments.{Moment, moment_of, stand_of, IsPut}
use Rattle.line_service.specs.Service.{Part, AreParts, all_said}
use Rattle.journal.specs.Spelling.{Journal, journal_text}
use Rattle.journal.specs.Prefixes.{IsRightJournal}
use Rattle.journal.specs.Recovery.{has_line_end}
use Rattle.segment_files.specs.Remarks.{without_remarks}
use Rattle.segment_files.specs.RemarkLaws.{AreLines}
use Rattle.ring_service.specs.Recovered.{IsPrefix}
use Rattle.line_replica.specs.declared.replica.Replica.{Replica}
use Rattle.line_replica.specs.declared.restorable.Restorable.{Restorable}
use Rattle.line_replica.specs.Log.{numbers_of, given}
use Rattle.line_replica.specs.Replies.{IsReplied}
use Rattle.line_replica.specs.State.{lines_of, IsRestorable}
use Rattle.folder_of_locks.specs.Holders.{Hold, AreHandedBy}
use Rattle.held_locks.specs.Kept.{LockView}
use Rattle.folder_of_locks.specs.Folders.{Place, AreStarted}
use Rattle.lock_service.specs.declared.service.LockService.{LockService}
use Rattle.lock_service.specs.Segmented.{segmenting}
use Rattle.lock_service.specs.Serving.{IsServed}
use Rattle.lock_service.specs.State.{state_lines}
use Rattle.lock_service.specs.Remarked.{begun_with_remarks}
use Rattle.lock_journal.specs.Begun.{HaveBegun}
use Rattle.lock_journal.specs.Counting.{SegmentView}
use Rattle.lock_journal.specs.KeysBack.{IsSound}
use Rattle.lock_journal.specs.Replicas.{AreToldAround, AreToldAfter, others_of}
use Rattle.lock_life.specs.Life.{Stage, AreFound, AreStages}
use Rattle.lock_life.specs.Started.{IsTakenOf, IsNew}
use Rattle.line_replica.specs.Segmented as around
use Rattle.line_replica.specs.Restoring as behind

-- ---- the service that a program of locks runs

-- a replica of locks, whose state is answered where it is asked for; how it answers a line, and how
-- it lives in segments
abbrev pub Service : Type 0
Service = Restorable (Replica LockService)

abbrev pub answering : AnsweringWith Service
answering = IsRestorable (IsReplied IsServed) (lines_of state_lines)

abbrev pub by_segments : Segmenting Service
by_segments = behind.segmenting (around.segmenting segmenting)

-- the locks inside
abbrev pub inside : Service → LockService
inside s = s.inner.numbered.inner

-- on its terms each note is kept, and no fault is permitted
pub record IsPlain (s : Service) : Type 0 where
  pub noting : (inside s).terms.noting ≡ true
  pub plain : (inside s).terms.faults ≡ false

-- the lines of parts
abbrev pub lines_in : List (Part Service) → List (List ℕ)
lines_in [] = []
lines_in (p ∷ ps) = p.lines ++ lines_in ps

-- the delivered lines of stages, and what they said, one after the other
abbrev pub told_of : List Stage → List (List ℕ)
told_of stages = flat_map (λ (s : Stage). s.told) stages

abbrev pub said_of : List Stage → List ℕ
said_of stages = flat_map (λ (s : Stage). s.out) stages

-- the last of them, which began so, ended the run, and this is kept of its journal; the others ended
-- with their segments
abbrev pub EndWith : Stage → List Stage → SegmentView → List ℕ → Type 0
EndWith s [] start journal = (s.killed ≡ true) × (s.start ≡ start) × (s.journal ≡ journal)
EndWith s (next ∷ more) start journal = (s.killed ≡ false) × EndWith next more start journal

-- ---- a run

-- A run from this service on, whose last segment began with that one, in which these lines were
-- delivered and this was said of them, is these stages of the locks inside. The locks were given
-- the lines that are new, and say what was said of these; else the replica said something of its
-- own, or the state was answered.
pub record IsRun (start last : Service) (lines : List (List ℕ)) (said kept : List ℕ)
    (first : Stage) (more : List Stage) : Type 0 where
  pub stages : AreStages first more
  pub begins : first.start ≡ (inside start).segment
  pub ends : EndWith first more (inside last).segment (without_remarks kept)
  pub told : told_of (first ∷ more) ≡ given (numbers_of start.inner.numbered.keys) (others_of lines)
  pub replied : List ℕ
  pub replied_so : AreToldAfter lines said replied
  pub said_so : AreToldAround (numbers_of start.inner.numbered.keys) (others_of lines) replied
      (said_of (first ∷ more))

-- whole lines are a right journal, when their remarks are left out
pub record IsWholeJournal (bytes : List ℕ) : Type 0 where
  pub journal : Journal
  pub right : IsRightJournal journal
  pub lines : AreLines bytes
  pub is : without_remarks bytes ≡ journal_text journal

-- Of a run from this moment to that one, after which other lines had these notes: the service with
-- which its last segment began, and the notes since. The segment's file holds that, and its head has
-- a text. Whatever is kept of it after its head, with these notes and no more than those others, the
-- run is some stages.
pub record IsInStages (a b : Moment Service) (before : List ℕ) (lines : List (List ℕ))
    (said notes : List ℕ) : Type 0 where
  pub last : Service
  pub digest : List ℕ
  pub noted : List ℕ
  pub holds : IsSome a.files → a.journal ≡ Some (by_segments.text a.service a.number before)
      → b.journal ≡ Some (by_segments.text last b.number digest ++ noted)
  pub fits : by_segments.HasText a.service a.number before
      → by_segments.HasText last b.number digest
  pub whole : IsWholeJournal (begun_with_remarks last.inner ++ noted)
  pub stages : (kept : List ℕ)
      → IsPrefix (begun_with_remarks last.inner ++ noted) kept
      → IsPrefix kept (begun_with_remarks last.inner ++ (noted ++ notes))
      → (first : Stage) × (more : List Stage) × IsRun a.service last lines said kept first more

-- A law: lines that are delivered in parts, and lines after them that are answered, are a run in
-- stages. No answer was lost up to the last delivered line.
abbrev pub PartsAreStages : Type 0
PartsAreStages =
    (folder : List ℕ) (a b : Moment Service) (before : List ℕ) (parts : List (Part Service))
    (untold : List (List ℕ)) (unsaid notes : List ℕ) (new : Service) (is : Option Held)
    → HaveBegun (inside a.service).segment.locks → IsPlain a.service → IsSound a.service.inner
    → b.service.inner.lost ≡ false
    → AreParts answering by_segments folder a parts b → AllByRecursion IsLine untold
    → Answers (by_stand answering) (stand_of b) untold unsaid notes (stand new is)
    → IsInStages a b before (lines_in parts) (all_said parts) notes

-- the moment when the file of the next segment had been put there
abbrev pub moment_after : {folder : List ℕ} {b : Moment Service} {next : Service}
    {is : Option Held} → IsPut by_segments folder b next is → Moment Service
moment_after {folder} {b} {next} {is} put =
    moment_of next is (b.number + 1) (Some (by_segments.text next (b.number + 1) put.behind))

-- A law: a run that ended then is one too, whose last stage has no lines.
abbrev pub PutSegmentsAreStages : Type 0
PutSegmentsAreStages =
    (folder : List ℕ) (a b : Moment Service) (before : List ℕ) (parts : List (Part Service))
    (next : Service) (is : Option Held)
    → HaveBegun (inside a.service).segment.locks → IsPlain a.service → IsSound a.service.inner
    → b.service.inner.lost ≡ false → AreParts answering by_segments folder a parts b
    → (put : IsPut by_segments folder b next is)
    → IsInStages a (moment_after put) before (lines_in parts) (all_said parts) []

-- A law: two runs, the second begun with the locks that are found in what is kept of the first, are
-- stages one after the other, and so a life.
abbrev pub RunsFollow : Type 0
RunsFollow =
    (one next : Stage) (more others : List Stage) (last : SegmentView) (journal : List ℕ)
    → AreStages one more → EndWith one more last journal
    → AreFound last.locks journal next.start.locks → AreStages next others
    → AreStages one (more ++ next ∷ others)

-- the whole lines of these bytes are the first of those, in order
abbrev pub HasNoLineMore : List ℕ → List ℕ → Type 0
HasNoLineMore bytes those =
    (lines cut : List ℕ)
    × (bytes ≡ lines ++ cut)
    × AreLines lines
    × (has_line_end cut ≡ false)
    × IsPrefix lines those

-- This is left of the last segment of such a run, after its head, and no later segment is in the
-- folder. It begins with the notes of all that was reported; whatever comes after them, of lines a
-- start takes no more than the notes of the others.
pub record IsLeftIn {a b : Moment Service} {before : List ℕ} {lines : List (List ℕ)}
    {said notes : List ℕ} (r : IsInStages a b before lines said notes) (held : Held)
    (folder left : List ℕ) : Type 0 where
  pub file : bytes_of held (segment_file folder b.number)
      ≡ Some (by_segments.text r.last b.number r.digest ++ left)
  pub last : (n : ℕ) → IsNumber n → is_there held (segment_file folder n) ≡ true → n ≤ b.number
  pub told : IsPrefix r.noted left
  pub no_more : (front : List ℕ) → IsTakenOf b.number r.digest (inside r.last).segment.locks
      (begun_with_remarks r.last.inner ++ left) (begun_with_remarks r.last.inner ++ front)
      → HasNoLineMore front (r.noted ++ notes)

-- The run is these stages, with some of what was left: the notes of all that was reported, at least.
pub record IsTakenAs {a b : Moment Service} {before : List ℕ} {lines : List (List ℕ)}
    {said notes : List ℕ} (r : IsInStages a b before lines said notes) (left : List ℕ)
    (first : Stage) (more : List Stage) : Type 0 where
  pub taken : List ℕ
  pub told : IsPrefix r.noted taken
  pub of_left : IsPrefix taken left
  pub run : IsRun a.service r.last lines said (begun_with_remarks r.last.inner ++ taken) first more

-- A law: where that is left, and locks start there, the run is some stages, and these locks are
-- found in its journal, with new ones after them, when each of these holds was handed to its client.
-- So the next run follows it, if no lock is new and no hold was handed over.
abbrev pub RunsGoOn : Type 0
RunsGoOn =
    (a b : Moment Service) (before : List ℕ) (lines : List (List ℕ)) (said notes : List ℕ)
    (r : IsInStages a b before lines said notes) (held : Held) (folder left : List ℕ)
    (word : Option (List ℕ)) (holders : List Hold) (after : Option Held) (p : Place)
    → by_segments.HasText a.service a.number before → IsLeftIn r held folder left
    → AreStarted folder word holders (Some held) after p
    → (first : Stage) × (more : List Stage) × (t : IsTakenAs r left first more)
    × (locks added : List LockView)
    × AreFound (inside r.last).segment.locks
    (without_remarks (begun_with_remarks r.last.inner ++ t.taken)) locks
    × AllByRecursion IsNew added
    × AreHandedBy p.names (locks ++ added) holders p.locks
