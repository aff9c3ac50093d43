-- One lock as it is kept, and what is done to it (this project's own).
use Rattle.std.specs.Prelude.{◌≡◌, ℕ, ◌+◌, ◌<◌, List, [], ◌∷◌, ◌++◌, ◌==◌, cond, length, map, true, Option, Some, None, ◌⊎◌}
use Rattle.ring_model.specs.Limits.{event_limit}
use Rattle.ring_model.specs.declared.events.Op.{Op}
use Rattle.endless_ring.specs.Endless.{EndlessView}
use Rattle.held_locks.specs.declared.answers.Waiter.{Waiter}
use Rattle.held_locks.specs.declared.answers.Answer.TheVariants as answer
use Rattle.held_locks.specs.declared.answers.Answers.{Answers}
use Rattle.held_locks.specs.declared.answers.Refusal.{Refusal}
use Rattle.held_locks.specs.declared.answers.Refusal.TheVariants as refusal
use Rattle.held_locks.specs.declared.parts.LockParts.{LockParts}
use Rattle.held_locks.specs.Queues.{stands, without}
use Rattle.held_locks.specs.Waiting.{lock_in}
use Rattle.held_locks.specs.Locks.{Call, called, Turn}
use Rattle.held_locks.specs.Kept.{LockView, state_of, lock_of, IsKeptLock, AreMade, ended_in, answers_of}

-- contracts see the ring, the queue and the holder
abbrev pub view_of : LockParts → LockView
view_of p = record { ring = p.ring; queue = p.queue.items; holder = p.holder }

abbrev pub views_of : List LockParts → List LockView
views_of ps = map view_of ps

-- a call of the ring by a seat
abbrev pub IsMade : EndlessView → EndlessView → ℕ → Op → Type 0
IsMade old new seat o = AreMade old (Call (called (state_of old) seat o) ∷ []) new

-- why the ring refuses this many events
abbrev pub IsLackOf : EndlessView → ℕ → Refusal → Type 0
IsLackOf e need why =
    ((why ≡ refusal.Full) × (event_limit < length e.ring.book.history + need))
    ⊎ (why ≡ refusal.Memory)

-- a turn was made of the lock
pub record IsTurned (old new : LockView) (c : ℕ) (t : Turn) (r : Answers) : Type 0 where
  pub lock : lock_of new ≡ t.lock
  pub marks : AreMade old.ring t.marks new.ring
  pub answers : answers_of c r ≡ t.answers
  pub ended : r.ended ≡ ended_in old.ring t.marks
  pub kept : IsKeptLock new

-- or refused for lack of room for this many events, or of memory; nothing has changed
pub record IsLacking (old new : LockView) (need : ℕ) (r : Answers) : Type 0 where
  pub why : Refusal
  pub lack : IsLackOf old.ring need why
  pub refused : r ≡ record { own = Some (answer.Refused why); ended = None; granted = None }
  pub same : new ≡ old

-- the entries of who waits, when the queue of the lock of this number changes so
abbrev pub IsEntryOf : ℕ → Option ℕ → List (ℕ × ℕ) → List (ℕ × ℕ) → Type 0
IsEntryOf client lock old new =
    (c : ℕ) → lock_in new c ≡ cond (client == c) lock (lock_in old c)

pub data WaitsChange (lock : ℕ) (before after : List Waiter) (old new : List (ℕ × ℕ)) : Type 0
  where
    Unchanged : after ≡ before → new ≡ old → WaitsChange lock before after old new
    Begun : (w : Waiter) → after ≡ before ++ w ∷ [] → IsEntryOf w.client (Some lock) old new
        → WaitsChange lock before after old new
    Passed : (w : Waiter) → before ≡ w ∷ after → IsEntryOf w.client None old new
        → WaitsChange lock before after old new
    Dropped : (client : ℕ) → stands client before ≡ true → after ≡ without client before
        → IsEntryOf client None old new → WaitsChange lock before after old new

-- a turn of the lock of this number and of the waiting clients; or a refusal for lack of room or memory
pub record IsTurnedIn (lock : ℕ) (old new : LockView) (entries later : List (ℕ × ℕ)) (c : ℕ)
    (t : Turn) (r : Answers) : Type 0 where
  pub turned : IsTurned old new c t r
  pub waits : WaitsChange lock old.queue new.queue entries later

pub record IsLackingIn (old new : LockView) (entries later : List (ℕ × ℕ)) (need : ℕ)
    (r : Answers) : Type 0 where
  pub lacking : IsLacking old new need r
  pub waits : (c : ℕ) → lock_in later c ≡ lock_in entries c
