-- The answer of a call to its client, and the effect of one that is made under the lock of a ring
-- on the book and on the seat (this project's own).
use Rattle.std.specs.Prelude.{◌≡◌, ℕ, ◌+◌, ◌≤◌, ◌++◌, ◌∷◌, [], List, length, Some, slice_get, Result, IsOk, IsErr, IsErrOf, OnErr}
use mathlib.Core.List.{IsPrefix}
use Rattle.ring_model.specs.Ring.{Ring}
use Rattle.ring_model.specs.History.{Works, State}
use Rattle.ring_model.specs.Groups.{IsHistory}
use Rattle.ring_model.specs.Limits.{event_limit}
use Rattle.ring_model.specs.declared.events.Entry.TheVariants as entry
use Rattle.ring_model.specs.declared.events.Event.{Event}
use Rattle.ring_model.specs.declared.events.Op.{Op}
use Rattle.ring_model.specs.declared.events.Receipt.{Receipt}
use Rattle.ring_book.specs.BookView.{BookView, IsRecorded}
use Rattle.ring_book.specs.declared.events.BookError.{BookError}
use Rattle.ring_book.specs.declared.events.BookError.TheVariants.{HistoryFull}
use Rattle.ring_shared.specs.Client.{Client, IsUnchanged}
use Rattle.ring_shared.specs.Holding.{IsHeld}

-- The answer of a call to its client: the receipt is the call's and is at the end of the log, it
-- took at most one place of the log's room, and the receipt's event is the last of the history that
-- the seat has seen then.
pub record IsToldCall {C : Type 0} (w : Works C) (a : State C) (before after : Client) (op : Op)
    (r : Receipt) : Type 0 where
  pub of_seat : r.event.seat ≡ before.number
  pub of_call : r.event.op ≡ op
  pub number : after.number ≡ before.number
  pub logged : after.log ≡ before.log ++ entry.Receipt r ∷ []
  pub room : before.room ≤ after.room + 1
  pub last : length after.seen ≡ r.position + 1
  pub event : slice_get after.seen r.position ≡ Some r.event
  pub legal_and_whole : IsHistory w a after.seen

-- The call was made, and r is its receipt: the book made the one step that the receipt records, the
-- seat's log has just that receipt more and took at most one place of its room for it, the seat
-- has seen the whole history, which begins with the events that it had seen, and the book is as it
-- is whenever the lock is free.
pub record IsCallUnderLock {C : Type 0} (w : Works C) (first : C) (start : Ring) (seats : ℕ)
    (legal : List Event → Type 0) (old new : BookView C) (before after : Client) (op : Op)
    (r : Receipt) : Type 0 where
  pub recorded : IsRecorded w old new before.number op r
  pub logged : after
      ≡ record {
        number = before.number;
        log = before.log ++ entry.Receipt r ∷ [];
        seen = new.history;
        room = after.room;
      }
  pub room : before.room ≤ after.room + 1
  pub later : IsPrefix before.seen after.seen
  pub held : IsHeld w first start seats legal new

-- When a call is refused: a full history is, and HistoryFull is said of no other; where book and
-- log have room, none is. A refusal leaves the book and the seat as they were.
pub record IsRefusedUnderLock {C : Type 0} (old new : BookView C) (before after : Client)
    (result : Result Receipt BookError) : Type 0 where
  pub full : length old.history ≡ event_limit → IsErr result
  pub full_only : IsErrOf result HistoryFull → length old.history ≡ event_limit
  pub with_room : 1 ≤ old.room → 1 ≤ before.room → IsOk result
  pub unchanged : OnErr result ((new ≡ old) × IsUnchanged before after)
