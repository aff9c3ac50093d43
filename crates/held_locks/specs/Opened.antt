-- The hold that is open in the history of a ring's segment (this project's own).
use Rattle.std.specs.Prelude.{◌≡◌, ℕ, ◌+◌, ◌<◌, ◌≤◌, ◌⊎◌, List, [], ◌∷◌, ◌++◌, map, drop, length, slice_get, slice_index_or, nat_le, if◌then◌else◌, Option, Some, None, option_map}
use Rattle.ring_model.specs.Limits.{event_limit}
use Rattle.ring_model.specs.LockSeats.{release_seat, leave_seat}
use Rattle.ring_model.specs.History.{State, after}
use Rattle.ring_model.specs.Resources.{till}
use Rattle.ring_model.specs.declared.events.Event.{Event}
use Rattle.ring_model.specs.declared.events.Entry.{Entry}
use Rattle.ring_model.specs.declared.events.Entry.TheVariants as entry
use Rattle.ring_logs.specs.LogView.{LogView}
use Rattle.ring_model.specs.Bases.{IsAmount, state_from, shifted}
use Rattle.endless_ring.specs.Endless.{EndlessView, IsEndless}
use Rattle.held_locks.specs.declared.answers.Holder.{Holder}
use Rattle.held_locks.specs.declared.answers.Refusal.{Refusal}
use Rattle.held_locks.specs.declared.answers.Refusal.TheVariants as refusal
use Rattle.held_locks.specs.Grants.{most_passes, repairs}
use Rattle.held_locks.specs.Queues.{Lock}
use Rattle.held_locks.specs.Locks.{Mark, Call, Survey, Input, Restart}
use Rattle.held_locks.specs.Promises.{AreRight, locks_after, marks_of, events_of, open_after, carries}
use Rattle.held_locks.specs.Kept.{LockView, state_of, lock_of, lock_limit, AreMade}

-- the events of a segment, counted with those before it
abbrev pub events_in : EndlessView → List Event
events_in e = shifted e.base e.ring.book.history

-- the place of the last survey in a log; where there is none, this one
abbrev pub last_survey : ℕ → List Entry → ℕ
last_survey place [] = place
last_survey place (entry.Receipt r ∷ es) = last_survey place es
last_survey place (entry.Survey s ∷ es) = last_survey s.position es

abbrev pub log_of : EndlessView → ℕ → List Entry
log_of e seat =
    let c : LogView = slice_index_or e.ring.clients seat (record { number = seat; log = [] }) in
    c.log

-- the place before which all holds have ended: that of the last survey of an end
abbrev pub later : ℕ → ℕ → ℕ
later a b = if nat_le a b then b else a

abbrev pub ended_before : EndlessView → ℕ
ended_before e =
    later (last_survey 0 (log_of e release_seat)) (last_survey 0 (log_of e leave_seat))

-- the hold that is open: its token
abbrev pub open_in : EndlessView → Option ℕ
open_in e = open_after None (map Call (drop (ended_before e) (events_in e)))

-- after a restart it is client 0's
abbrev pub holder_after : Option ℕ → Option Holder
holder_after token = option_map (λ (t : ℕ). record { client = 0; token = t }) token

-- A lock more, of this ring, repaired. No client waits for it; the hold that is open in the ring's
-- history continues.
pub record IsAdded (old new : List LockView) (e : EndlessView) : Type 0 where
  pub ring : EndlessView
  pub repaired : AreMade e
      (map Call (repairs (most_passes (length e.ring.book.now.ring.values)) (state_of e))) ring
  pub added : new
      ≡ old ++ record { ring = ring; queue = []; holder = holder_after (open_in e) } ∷ []

-- none is added: there are as many as there may be, or the ring has no room for its repair; or there
-- is no memory
abbrev pub HaveNoRoom : List LockView → EndlessView → Type 0
HaveNoRoom vs e =
    (lock_limit ≤ length vs)
    ⊎ (event_limit < length e.ring.book.history + most_passes (length e.ring.book.now.ring.values))

abbrev pub IsNotAdded : List LockView → EndlessView → Refusal → Type 0
IsNotAdded vs e why = ((why ≡ refusal.Full) × HaveNoRoom vs e) ⊎ (why ≡ refusal.Memory)

-- ---- of a history that shows its holds

-- the place of the last survey among marks, from this place on; where there is none, the first
abbrev pub last_end : ℕ → ℕ → List Mark → ℕ
last_end last place [] = last
last_end last place (Call e ∷ ms) = last_end last (place + 1) ms
last_end last place (Survey seat ∷ ms) = last_end place place ms

-- a ring that was recovered from a segment's history with these marks, which begins at this state
pub record IsRecovered (a : State ℕ) (marks : List Mark) (e : EndlessView) : Type 0 where
  pub endless : IsEndless e
  pub amount : IsAmount e.base.amount
  pub start : state_from e.base e.ring.book.start ≡ a
  pub events : events_in e ≡ events_of marks
  pub ends : ended_before e ≡ last_end 0 0 marks

-- the open hold that is found is that of the marks
abbrev pub HoldsAreFound : Type 0
HoldsAreFound =
    (a : State ℕ) (marks : List Mark) (e : EndlessView) → IsRecovered a marks e
    → (open_in e ≡ open_after None marks) × (state_of e ≡ after till a (events_of marks))

-- So the lock that is made of the ring that was recovered from the last segment is the lock that
-- was, restarted.
abbrev pub RestartsAreRight : Type 0
RestartsAreRight =
    (ls : List Lock) (is : List Input) (at : ℕ) (l : Lock) (e : EndlessView) → AreRight ls
    → slice_get ls at ≡ Some l → IsRecovered l.ring (carries l ++ marks_of at ls is) e
    → slice_get (locks_after ls (is ++ Restart ∷ [])) at
    ≡ Some (lock_of (record { ring = e; queue = []; holder = holder_after (open_in e) }))
