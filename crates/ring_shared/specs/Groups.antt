-- The effect of a group pass on the book and on the seat of a ring, and the receipts that a client
-- gets (this project's own).
use Rattle.std.specs.Prelude.{◌≡◌, ◌≢◌, ◌⊎◌, ℕ, ◌+◌, ◌<◌, ◌≤◌, List, ◌++◌, length, Result, IsErrOf, OnErr}
use mathlib.Core.List.{IsPrefix}
use Rattle.ring_model.specs.Ring.{Ring}
use Rattle.ring_model.specs.Groups.{move_order, IsBlockOf}
use Rattle.ring_model.specs.GroupLaws.{CanMove}
use Rattle.ring_model.specs.History.{Works}
use Rattle.ring_model.specs.Limits.{event_limit}
use Rattle.ring_model.specs.declared.events.Event.{Event}
use Rattle.ring_book.specs.BookView.{BookView}
use Rattle.ring_book.specs.GroupView.{IsLeastWithout, IsGroupRecorded}
use Rattle.ring_book.specs.declared.books.groups.GroupError.{GroupError}
use Rattle.ring_book.specs.declared.books.groups.GroupError.TheVariants.{WholeRing, NotPrivileged, HistoryFull, OutOfMemory}
use Rattle.ring_book.specs.declared.books.groups.GroupReceipt.{GroupReceipt}
use Rattle.ring_logs.specs.Seats.{receipts_from}
use Rattle.ring_shared.specs.Client.{Client, IsUnchanged}
use Rattle.ring_shared.specs.Holding.{IsHeld}

-- A client has received a group: its log also has the receipt of each member, from the answer's
-- first position on, for which it took at most a place each of its room, and the events that
-- it has seen end with the block, which begins there.
pub record IsGroupLogged (n : ℕ) (before after : Client) (order : ℕ) (machines : List ℕ)
    (r : GroupReceipt) : Type 0 where
  pub events : List Event
  pub block : IsBlockOf n before.number order (move_order machines) events
  pub count : r.count ≡ length machines
  pub number : after.number ≡ before.number
  pub logged : after.log ≡ before.log ++ receipts_from r.first events
  pub room : before.room ≤ after.room + length machines
  pub past : List Event
  pub seen : after.seen ≡ past ++ events
  pub first : length past ≡ r.first

-- The group was passed: the book also has its block, the seat's log the receipts of the block,
-- the seat has seen the whole history, which begins with the events that it had seen, and the book
-- is as it is whenever the lock is free.
pub record IsGroupUnderLock {C : Type 0} (w : Works C) (first : C) (start : Ring) (seats : ℕ)
    (legal : List Event → Type 0) (old new : BookView C) (before after : Client) (order : ℕ)
    (machines : List ℕ) (r : GroupReceipt) : Type 0 where
  pub recorded : IsGroupRecorded w old new before.number order machines r
  pub told : IsGroupLogged (length start.values) before after order machines r
  pub all : after.seen ≡ new.history
  pub later : IsPrefix before.seen after.seen
  pub held : IsHeld w first start seats legal new

-- the refusal is this one, unless memory runs out
abbrev pub IsRefusedFor : GroupError → Result GroupReceipt GroupError → Type 0
IsRefusedFor e result = IsErrOf result e ⊎ IsErrOf result OutOfMemory

-- When a group is refused: each refusal has its cause, in this order, and where there is the cause
-- the group is refused, unless memory runs out. A refusal leaves the book and the seat as they
-- were.
pub record IsGroupRefused {C : Type 0} (old new : BookView C) (before after : Client)
    (machines : List ℕ) (result : Result GroupReceipt GroupError) : Type 0 where
  pub whole : length machines ≡ length old.now.ring.values → IsRefusedFor WholeRing result
  pub whole_only : IsErrOf result WholeRing → length machines ≡ length old.now.ring.values
  pub unprivileged : (m : ℕ) → length machines ≢ length old.now.ring.values
      → IsLeastWithout old.now.ring.values machines m → IsRefusedFor (NotPrivileged m) result
  pub unprivileged_only : (m : ℕ) → IsErrOf result (NotPrivileged m)
      → (length machines ≢ length old.now.ring.values)
      × IsLeastWithout old.now.ring.values machines m
  pub full : CanMove old.now.ring.values machines
      → event_limit < length old.history + length machines → IsRefusedFor HistoryFull result
  pub full_only : IsErrOf result HistoryFull
      → CanMove old.now.ring.values machines × (event_limit < length old.history + length machines)
  pub unchanged : OnErr result ((new ≡ old) × IsUnchanged before after)
