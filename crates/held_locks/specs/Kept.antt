-- Locks as they are kept: each has a ring of which a segment is in memory (this project's own).
use Rattle.std.specs.Prelude.{◌≡◌, ◌≢◌, ℕ, zero, suc, ◌+◌, ◌<◌, ◌≤◌, List, [], ◌∷◌, ◌++◌, map, length, slice_get, Option, Some, None, ◌⊎◌}
use Rattle.ring_model.specs.Limits.{event_limit}
use Rattle.held_locks.specs.Grants.{most_passes}
use Rattle.ring_model.specs.History.{State}
use Rattle.ring_model.specs.Resources.{add_order}
use Rattle.ring_model.specs.declared.events.Receipt.{Receipt}
use Rattle.endless_ring.specs.Endless.{EndlessView, IsEndless, IsSameEndless, IsCalled, local_survey}
use Rattle.held_locks.specs.declared.answers.Waiter.{Waiter}
use Rattle.held_locks.specs.declared.answers.Holder.{Holder}
use Rattle.held_locks.specs.declared.answers.Answer.{Answer}
use Rattle.held_locks.specs.declared.answers.Answer.TheVariants as answer
use Rattle.held_locks.specs.declared.answers.Answers.{Answers}
use Rattle.held_locks.specs.declared.answers.HoldEnd.{HoldEnd}
use Rattle.held_locks.specs.declared.answers.Left.{Left}
use Rattle.held_locks.specs.declared.answers.Refusal.TheVariants as refusal
use Rattle.held_locks.specs.Queues.{Lock}
use Rattle.held_locks.specs.Locks.{Ask, Leave, Corrupt, Mark, Call, Survey as Surveyed, Turn, Asked, turn, step}
use Rattle.held_locks.specs.Promises.{AreRight, locks_after, answers_after, leaves}
use Rattle.held_locks.specs.Waiting.{AreWaits}

-- a lock as it is kept
pub record LockView : Type 0 where
  pub ring : EndlessView
  pub queue : List Waiter
  pub holder : Option Holder

-- the state of a ring, over all its segments
abbrev pub state_of : EndlessView → State ℕ
state_of e = record {
  ring = e.ring.book.now.ring;
  content = add_order e.base.amount e.ring.book.now.content;
  grants = e.base.grants + e.ring.book.now.grants;
}

-- the lock
abbrev pub lock_of : LockView → Lock
lock_of v = record { ring = state_of v.ring; queue = v.queue; holder = v.holder }

abbrev pub locks_of : List LockView → List Lock
locks_of vs = map lock_of vs

-- how many seats the ring of a lock has
abbrev pub seat_count : ℕ
seat_count = 10

-- the ring of a lock
pub record IsKeptRing (e : EndlessView) : Type 0 where
  pub endless : IsEndless e
  pub seats : length e.ring.clients ≡ seat_count

-- A lock whose ring has room for a grant to each client that waits. So no grant that follows the
-- end of a hold wants room or memory.
pub record IsKeptLock (v : LockView) : Type 0 where
  pub ring : IsKeptRing v.ring
  pub room : length v.queue ≤ v.ring.ring.book.room

-- how many locks there may be
abbrev pub lock_limit : ℕ
lock_limit = 1000000

-- the locks are right, and the entries say who waits
pub record AreKept (vs : List LockView) (entries : List (ℕ × ℕ)) : Type 0 where
  pub right : AreRight (locks_of vs)
  pub few : length vs ≤ lock_limit
  pub each : (i : ℕ) (v : LockView) → slice_get vs i ≡ Some v → IsKeptLock v
  pub waits : AreWaits (locks_of vs) entries

-- The ring was called so, in this order. Its room for events may change at any time. A survey
-- leaves it as it is.
abbrev pub AreMade : EndlessView → List Mark → EndlessView → Type 0
AreMade old [] new = IsSameEndless old new
AreMade old (Call e ∷ ms) new =
    (now next : EndlessView)
    × (r : Receipt)
    × IsSameEndless old now
    × IsCalled now next e.seat e.op r
    × (r.event ≡ e)
    × AreMade next ms new
AreMade old (Surveyed seat ∷ ms) new = AreMade old ms new

-- the survey that ends a hold, of the ring before: it comes first
abbrev pub ended_in : EndlessView → List Mark → Option HoldEnd
ended_in e (Surveyed seat ∷ ms) = Some (record { seat = seat; survey = local_survey e.ring })
ended_in e _ = None

abbrev pub ended_at : Option LockView → List Mark → Option HoldEnd
ended_at None ms = None
ended_at (Some v) ms = ended_in v.ring ms

-- the answers to the client that asks and to the one that is granted next
abbrev pub own_answer : ℕ → Option Answer → List (ℕ × Answer)
own_answer c None = []
own_answer c (Some a) = (c, a) ∷ []

abbrev pub other_grant : Option Holder → List (ℕ × Answer)
other_grant None = []
other_grant (Some h) = (h.client, answer.Granted h.token) ∷ []

abbrev pub answers_of : ℕ → Answers → List (ℕ × Answer)
answers_of c r = own_answer c r.own ++ other_grant r.granted

-- the step was made: its locks, its marks, its answers
pub record IsDone (old new : List LockView) (c i : ℕ) (ask : Ask) (r : Answers) : Type 0 where
  pub locks : locks_of new ≡ (step (locks_of old) (Asked c i ask)).locks
  pub answers : answers_of c r ≡ (step (locks_of old) (Asked c i ask)).answers
  pub ended : r.ended ≡ ended_at (slice_get old i) (step (locks_of old) (Asked c i ask)).marks
  pub marks : (v w : LockView) → slice_get old i ≡ Some v → slice_get new i ≡ Some w
      → AreMade v.ring (step (locks_of old) (Asked c i ask)).marks w.ring
  pub others : (j : ℕ) → j ≢ i → slice_get new j ≡ slice_get old j

-- how many events an ask needs: its own, and one for each client that waits
abbrev pub need : LockView → Ask → ℕ
need v (Corrupt machine value) =
    length v.queue + (1 + most_passes (length v.ring.ring.book.now.ring.values))
need v _ = length v.queue + 1

-- the segment of the lock's ring has no room for what the ask may need
abbrev pub IsFull : List LockView → ℕ → Ask → Type 0
IsFull vs i ask =
    (v : LockView)
    × (slice_get vs i ≡ Some v)
    × (event_limit < length v.ring.ring.book.history + need v ask)

-- The input is refused for lack of room or memory; nothing has changed.
pub record IsLack (old new : List LockView) (i : ℕ) (ask : Ask) (r : Answers) : Type 0 where
  pub why : ((r.own ≡ Some (answer.Refused refusal.Full)) × IsFull old i ask)
      ⊎ (r.own ≡ Some (answer.Refused refusal.Memory))
  pub none : (r.ended ≡ None) × (r.granted ≡ None)
  pub same : new ≡ old

-- an input is answered as the machine says, or refused for lack of room or memory
abbrev pub IsAnswer : List LockView → List LockView → ℕ → ℕ → Ask → Answers → Type 0
IsAnswer old new c i ask r = IsDone old new c i ask r ⊎ IsLack old new i ask r

-- what a leave reports of the first locks: of each that the client held, that its hold has ended, and
-- the client that is granted it
abbrev pub left_by : ℕ → Option HoldEnd → Option Holder → List Left
left_by i None granted = []
left_by i (Some e) granted = record { lock = i; ended = e; granted = granted } ∷ []

abbrev pub left_at : ℕ → ℕ → Option LockView → List Left
left_at c i None = []
left_at c i (Some v) =
    let t : Turn = turn [] (lock_of v) c Leave in left_by i (ended_in v.ring t.marks) t.lock.holder

abbrev pub left_of : ℕ → List LockView → ℕ → List Left
left_of c vs zero = []
left_of c vs (suc n) = left_of c vs n ++ left_at c n (slice_get vs n)

-- the clients that are granted, as answers
abbrev pub grants_after : List Left → List (ℕ × Answer)
grants_after [] = []
grants_after (l ∷ ls) = other_grant l.granted ++ grants_after ls

-- a client left all locks, one after the other
pub record IsLeft (old new : List LockView) (c : ℕ) (said : List Left) : Type 0 where
  pub locks : locks_of new ≡ locks_after (locks_of old) (leaves c (length old))
  pub answers : grants_after said ≡ answers_after (locks_of old) (leaves c (length old))
  pub told : said ≡ left_of c old (length old)
  pub marks : (i : ℕ) (v w : LockView) → slice_get old i ≡ Some v → slice_get new i ≡ Some w
      → AreMade v.ring (turn [] (lock_of v) c Leave).marks w.ring
