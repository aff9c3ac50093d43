-- Locks that C holds, and what their calls answer (this project's own).
use Rattle.std.specs.Prelude.{◌≡◌, ◌≢◌, ℕ, ◌≤◌, ◌⊎◌, List, [], ◌∷◌, ◌++◌, All, length, replicate, Option, Some, None}
use Rattle.ring_model.specs.Limits.{machine_limit}
use Rattle.ring_model.specs.Bases.{no_base}
use Rattle.ring_book.specs.BookView.{IsFresh}
use Rattle.endless_ring.specs.Endless.{EndlessView}
use Rattle.held_locks.specs.declared.answers.Answers.{Answers}
use Rattle.held_locks.specs.declared.answers.Holder.{Holder}
use Rattle.held_locks.specs.declared.answers.Left.{Left}
use Rattle.held_locks.specs.declared.answers.Refusal.{Refusal}
use Rattle.held_locks.specs.Cuts.{AreNext, HaveNoNext}
use Rattle.held_locks.specs.Locks.{Ask}
use Rattle.held_locks.specs.Kept.{LockView, lock_limit, IsAnswer, IsDone, IsLeft}
use Rattle.held_locks.specs.Opened.{IsAdded}
use Rattle.c_calls.specs.declared.lock_answers.Grant.{Grant}
use Rattle.c_calls.specs.Codes.{no_memory, bad_locks, bad_machines, grants_left}
use Rattle.c_calls.specs.LockReports.{lock_code}

-- the locks, and the grants to clients that waited which are not handed out yet
pub record DeskView : Type 0 where
  pub locks : List LockView
  pub grants : List Grant

-- the grant of a lock to this holder, if there is one
abbrev pub grant_at : ℕ → Option Holder → List Grant
grant_at lock None = []
grant_at lock (Some h) = record { client = h.client; token = h.token; lock = lock } ∷ []

-- the grants after holds that a leave ended
abbrev pub grants_in : List Left → List Grant
grants_in [] = []
grants_in (l ∷ ls) = grant_at l.lock l.granted ++ grants_in ls

-- An ask is answered as the machine of locks says, or refused for lack of room or memory, and a grant
-- to another is to be handed out. Where grants are left it is not taken, and nothing has changed.
abbrev pub IsAsked : DeskView → DeskView → ℕ → ℕ → Ask → Option Answers → Type 0
IsAsked old new client lock ask (Some r) =
    (old.grants ≡ [])
    × IsAnswer old.locks new.locks client lock ask r
    × (new.grants ≡ grant_at lock r.granted)
IsAsked old new client lock ask None = (old.grants ≢ []) × (new ≡ old)

-- the same of an ask that wants nothing
abbrev pub IsDoneAsk : DeskView → DeskView → ℕ → ℕ → Ask → Option Answers → Type 0
IsDoneAsk old new client lock ask (Some r) =
    (old.grants ≡ [])
    × IsDone old.locks new.locks client lock ask r
    × (new.grants ≡ grant_at lock r.granted)
IsDoneAsk old new client lock ask None = (old.grants ≢ []) × (new ≡ old)

-- a client left all locks, and the grants that follow are to be handed out
pub record IsDeskLeft (old new : DeskView) (client : ℕ) : Type 0 where
  pub none : old.grants ≡ []
  pub said : List Left
  pub left : IsLeft old.locks new.locks client said
  pub grants : new.grants ≡ grants_in said

-- one of the grants is handed out: the last; where there is none, nothing has changed
abbrev pub IsNextGrant : DeskView → DeskView → Option Grant → Type 0
IsNextGrant old new (Some g) =
    (old.grants ≡ new.grants ++ g ∷ []) × (new.locks ≡ old.locks)
IsNextGrant old new None = (old.grants ≡ []) × (new ≡ old)

-- a ring with no events of this many machines and values, each machine at 0
abbrev pub IsNewRing : ℕ → EndlessView → Type 0
IsNewRing machines e =
    (e.base ≡ no_base)
    × IsFresh (record { k = machines; values = replicate machines 0 }) 0 e.ring.book

-- a lock that was added over such a ring, which nobody holds and nobody waits for
pub record IsFree (machines : ℕ) (v : LockView) : Type 0 where
  pub ring : EndlessView
  pub new : IsNewRing machines ring
  pub over : IsAdded [] (v ∷ []) ring
  pub queue : v.queue ≡ []
  pub holder : v.holder ≡ None

-- this many such locks
pub record AreFreeLocks (count machines : ℕ) (d : DeskView) : Type 0 where
  pub many : length d.locks ≡ count
  pub free : All (IsFree machines) d.locks
  pub grants : d.grants ≡ []

-- a number of locks that may be asked for
abbrev pub IsLockCount : ℕ → Type 0
IsLockCount count = (1 ≤ count) × (count ≤ lock_limit)

-- a number of machines of each lock's ring that may be asked for
abbrev pub IsMachineCount : ℕ → Type 0
IsMachineCount machines = (2 ≤ machines) × (machines ≤ machine_limit)

-- no locks are opened, by the first that applies: their number, that of the machines, or want
abbrev pub IsLocksRefused : ℕ → ℕ → ℕ → Type 0
IsLocksRefused count machines code =
    ((code ≡ bad_locks) × (¬ IsLockCount count))
    ⊎ (((code ≡ bad_machines) × IsLockCount count × (¬ IsMachineCount machines))
    ⊎ ((code ≡ no_memory) × IsLockCount count × IsMachineCount machines))

-- ---- what an input is answered

-- of a leave
abbrev pub IsLeaveReport : DeskView → DeskView → ℕ → ℕ → Type 0
IsLeaveReport old new client code =
    ((code ≡ 0) × IsDeskLeft old new client)
    ⊎ ((code ≡ grants_left) × (old.grants ≢ []) × (new ≡ old))

-- of a cut: the locks continue in their next segments; or grants are left; or there is no next segment
-- of one, or no memory
abbrev pub IsCutAnswer : DeskView → DeskView → ℕ → Type 0
IsCutAnswer old new code =
    ((code ≡ 0) × (old.grants ≡ []) × (new.grants ≡ []) × AreNext old.locks new.locks)
    ⊎ (((code ≡ grants_left) × (old.grants ≢ []) × (new ≡ old))
    ⊎ ((why : Refusal) × (code ≡ lock_code why) × HaveNoNext old.locks why × (new ≡ old)))

-- a cut is answered so
pub record IsDeskCutReport (old new : DeskView) (code : ℕ) : Type 0 where
  pub is : IsCutAnswer old new code
