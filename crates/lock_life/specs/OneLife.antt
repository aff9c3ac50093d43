-- Runs of a program of locks over one folder are one life of locks (this project's own).
use Rattle.std.specs.Prelude.{ℕ, List, Option, None, Some, ◌≡◌, slice_get, [], ◌∷◌, ◌++◌, slice_set}
use Rattle.std.specs.List.{AllByRecursion}
use Rattle.disks.specs.Held.{Held}
use Rattle.line_service.specs.Segments.{Moment}
use Rattle.lock_protocol.specs.Names.{Names, lock_named}
use Rattle.folder_of_locks.specs.Holders.{Hold}
use Rattle.held_locks.specs.Queues.{Lock}
use Rattle.held_locks.specs.Locks.{Restart, Input}
use Rattle.held_locks.specs.Promises.{locks_after, AreRight}
use Rattle.held_locks.specs.Kept.{LockView, locks_of}
use Rattle.folder_of_locks.specs.Folders.{Place, AreStarted}
use Rattle.lock_life.specs.Life.{Stage, IsLockLife}
use Rattle.lock_life.specs.Runs.{Service, inside, by_segments, IsInStages, IsLeftIn, IsTakenAs}

-- A run over the folder, ended at any moment: the holds that were handed over at its start, what
-- was reported of it, and what was left of its last segment when the next run started.
pub record Run (folder : List ℕ) : Type 0 where
  pub holders : List Hold
  pub from : Moment Service
  pub to : Moment Service
  pub before : List ℕ
  pub lines : List (List ℕ)
  pub said : List ℕ
  pub notes : List ℕ
  pub in_stages : IsInStages from to before lines said notes
  pub fits : by_segments.HasText from.service from.number before
  pub held : Held
  pub left : List ℕ
  pub left_so : IsLeftIn in_stages held folder left

-- the locks with which it began
abbrev pub locks_at_start : {folder : List ℕ} → Run folder → List LockView
locks_at_start r = (inside r.from.service).segment.locks

-- and their names
abbrev pub names_of_run : {folder : List ℕ} → Run folder → Names
names_of_run r = (inside r.from.service).segment.names

-- the next run starts of what this one left, with its own holders
pub record StartsBehind {folder : List ℕ} (r next : Run folder) : Type 0 where
  pub word : Option (List ℕ)
  pub after : Option Held
  pub place : Place
  pub started : AreStarted folder word next.holders (Some r.held) after place
  pub begins : locks_at_start next ≡ place.locks
  pub named : names_of_run next ≡ place.names

-- runs, each of which starts of what the one before it left
abbrev pub AreRuns : {folder : List ℕ} → Run folder → List (Run folder) → Type 0
AreRuns r [] = Unit {0}
AreRuns r (next ∷ more) = StartsBehind r next × AreRuns next more

-- The run is some stages, one for each segment, and these are a life of these inputs from these
-- locks on.
pub record IsLifeOf {folder : List ℕ} (ls : List Lock) (r : Run folder) (is : List Input) : Type 0
  where
    pub first : Stage
    pub more : List Stage
    pub run : IsTakenAs r.in_stages r.left first more
    pub life : IsLockLife ls first more is

-- This open hold of the machine, of the lock that has the name, is the client's now, with the same
-- token, and nothing else has changed.
pub record IsHandedOver (names : Names) (old new : List Lock) (h : Hold) : Type 0 where
  pub at : ℕ
  pub named : lock_named names h.name ≡ Some at
  pub lock : Lock
  pub there : slice_get old at ≡ Some lock
  pub held : lock.holder ≡ Some (record { client = 0; token = h.token })
  pub free : lock.queue ≡ []
  pub new_is : new ≡ slice_set old at
      (record lock { holder = Some (record { client = h.client; token = h.token }) })

-- each of these holds is
abbrev pub AreHandedOver : Names → List Lock → List Hold → List Lock → Type 0
AreHandedOver names old [] new = new ≡ old
AreHandedOver names old (h ∷ hs) new =
    (mid : List Lock) × IsHandedOver names old mid h × AreHandedOver names mid hs new

-- locks that are new: no client waits for one, and none holds it
abbrev pub AreNew : List Lock → Type 0
AreNew added = AllByRecursion (λ (l : Lock). (l.queue ≡ []) × (l.holder ≡ None)) added

-- One list of inputs, with a restart between two runs: each run is a life of its part of the list,
-- and begins with the locks after all inputs before it, with new ones after them, when its holds
-- were handed over.
abbrev pub AreOneLife : {folder : List ℕ} → List Lock → Run folder → List (Run folder)
    → List Input → Type 0
AreOneLife ls r [] is = IsLifeOf ls r is
AreOneLife ls r (next ∷ more) is =
    (now later : List Input)
    × (added handed : List Lock)
    × IsLifeOf ls r now
    × (is ≡ now ++ Restart ∷ later)
    × AreNew added
    × AreHandedOver (names_of_run next) (locks_after ls (now ++ Restart ∷ []) ++ added)
    next.holders handed
    × AreOneLife handed next more later

-- A law: runs over one folder are one list of inputs of the machine of locks, from the locks with
-- which the first of them began, and these are right.
abbrev pub RunsAreOneLife : Type 0
RunsAreOneLife =
    (folder : List ℕ) (r : Run folder) (more : List (Run folder)) → AreRuns r more
    → (is : List Input)
    × AreRight (locks_of (locks_at_start r))
    × AreOneLife (locks_of (locks_at_start r)) r more is
