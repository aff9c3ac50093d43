-- A ring on one thread that is called by numbers, as contracts see it (this project's own).
use Rattle.std.specs.Prelude.{◌≡◌, ℕ, ◌<◌, ◌≤◌, ◌⊎◌, true, false, List, [], ◌∷◌, ◌++◌, length, slice_set, slice_index_or, Option, Some, None}
use Rattle.ring_model.specs.Limits.{machine_limit, seat_limit, value_limit}
use Rattle.ring_model.specs.Ring.{is_privileged}
use Rattle.ring_state.specs.Sizes.{Size, IsSize}
use Rattle.ring_state.specs.StateFault.{IsFaultOf}
use Rattle.ring_state.specs.declared.sizes.ParamsError.{ParamsError}
use Rattle.ring_state.specs.declared.sizes.ParamsError.TheVariants as params
use Rattle.ring_state.specs.declared.states.StateError.{StateError}
use Rattle.ring_state.specs.declared.states.StateError.TheVariants as state
use Rattle.ring_model.specs.History.{Works, opening}
use Rattle.ring_model.specs.Logs.{Fits}
use Rattle.ring_model.specs.declared.events.Op.TheVariants as op
use Rattle.ring_model.specs.declared.events.Receipt.{Receipt}
use Rattle.ring_model.specs.declared.events.Entry.{Entry}
use Rattle.ring_model.specs.declared.events.Entry.TheVariants as entry
use Rattle.ring_logs.specs.LogView.{LogView}
use Rattle.ring_book.specs.BookView.{BookView, IsBook, IsRecorded}
use Rattle.ring_book.specs.declared.events.BookError.{BookError}
use Rattle.ring_book.specs.declared.events.BookError.TheVariants as book
use Rattle.ring_book.specs.declared.books.groups.GroupError.{GroupError}
use Rattle.ring_book.specs.declared.books.groups.GroupError.TheVariants as group
use Rattle.ring_logs.specs.Seats.{AreOfSeats}
use Rattle.ring_logs.specs.declared.logs.Log.{Log}
use Rattle.one_thread_ring.specs.Clients.{ClientView, told_all, AllStandInOrder}
use Rattle.one_thread_ring.specs.declared.errors.CallError.{CallError}
use Rattle.one_thread_ring.specs.declared.errors.CallError.TheVariants as call
use Rattle.one_thread_ring.specs.declared.errors.OpenError.{OpenError}
use Rattle.one_thread_ring.specs.declared.errors.OpenError.TheVariants as opens

-- the book, and the log of each client
pub record RingView (C : Type 0) : Type 0 where
  pub book : BookView C
  pub clients : List LogView

-- the client has its place as its number, and its log fits the history
pub record IsClient {C : Type 0} (w : Works C) (first : C) (b : BookView C) (place : ℕ)
    (c : LogView) : Type 0 where
  pub number : c.number ≡ place
  pub fits : Fits w (opening b.start first) b.history place c.log

-- The invariant of such a ring at every moment: its history is a legal and whole one of the
-- one-thread ring over the resource, each event's seat is a client's, and each client's log fits
-- it.
pub record IsOneThreadRing {C : Type 0} (w : Works C) (first : C) (d : RingView C) : Type 0 where
  pub book : IsBook w first d.book
  pub few : length d.clients ≤ seat_limit
  pub of_seats : AreOfSeats (length d.clients) d.book.history
  pub each : (i : ℕ) (c : LogView) → i < length d.clients
      → IsClient w first d.book i (slice_index_or d.clients i c)

-- the same ring, room aside
pub record IsSameRing {C : Type 0} (old new : RingView C) : Type 0 where
  pub book : new.book ≡ record old.book { room = new.book.room }
  pub clients : new.clients ≡ old.clients

-- such a ring with these clients' logs of its history, where the surveys of each are in
-- their order
pub record IsKeptBy {C : Type 0} (w : Works C) (first : C) (b : BookView C) (cs : List ClientView) :
    Type 0 where
  pub ring : IsOneThreadRing w first (record { book = b; clients = told_all b.history cs })
  pub in_order : AllStandInOrder (length b.history) cs

-- a client that was also given this
abbrev pub grown : LogView → List Entry → LogView
grown c es = record { number = c.number; log = c.log ++ es }

-- the client of this number was also given this, and no other anything
abbrev pub told_more : List LogView → ℕ → List Entry → List LogView
told_more cs seat es =
    slice_set cs seat (grown (slice_index_or cs seat (record { number = seat; log = [] })) es)

-- A try passes if the machine is privileged, and is answered as that pass; else nothing changes.
abbrev pub IsTried : {C : Type 0} → Works C → RingView C → RingView C → ℕ → ℕ → ℕ → Option Receipt
    → Type 0
IsTried w old new seat machine order (Some r) =
    (is_privileged old.book.now.ring.values machine ≡ true)
    × IsRecorded w old.book new.book seat (op.Pass machine order) r
    × (new.clients ≡ told_more old.clients seat (entry.Receipt r ∷ []))
IsTried w old new seat machine order None =
    (is_privileged old.book.now.ring.values machine ≡ false) × (new ≡ old)

-- the refusal of a book, by the ring
abbrev pub refusal_of : BookError → CallError
refusal_of book.HistoryFull = call.HistoryFull
refusal_of book.OutOfMemory = call.OutOfMemory

abbrev pub group_refusal_of : GroupError → CallError
group_refusal_of group.WholeRing = call.WholeRing
group_refusal_of (group.NotPrivileged m) = call.NotPrivileged m
group_refusal_of group.HistoryFull = call.HistoryFull
group_refusal_of group.OutOfMemory = call.OutOfMemory

-- n clients, each with its place as its number, that have empty logs
abbrev pub AreFresh : ℕ → List LogView → Type 0
AreFresh count cs =
    (length cs ≡ count)
    × ((i : ℕ) (c : LogView) → i < count → slice_index_or cs i c ≡ record { number = i; log = [] })

-- the logs are those of the clients, in their order
abbrev pub AreLogsOf : List LogView → List Log → Type 0
AreLogsOf [] ls = ls ≡ []
AreLogsOf (c ∷ cs) [] = ⊥
AreLogsOf (c ∷ cs) (l ∷ ls) = ((l.seat ≡ c.number) × (l.entries.items ≡ c.log)) × AreLogsOf cs ls

-- the refusal of start values, by the ring
abbrev pub open_refusal_of : StateError → OpenError
open_refusal_of state.Length = opens.Length
open_refusal_of (state.Value i) = opens.Value i
open_refusal_of state.OutOfMemory = opens.OutOfMemory

-- the number of seats is one that a ring may have
abbrev pub IsSeatCount : ℕ → Type 0
IsSeatCount seats = (1 ≤ seats) × (seats ≤ seat_limit)

-- why a size is none that a ring may have
abbrev pub IsSizeFault : Size → ParamsError → Type 0
IsSizeFault size params.TooFew = size.n < 2
IsSizeFault size params.TooMany = machine_limit < size.n
IsSizeFault size params.FewValues = (2 ≤ size.n) × (size.n ≤ machine_limit) × (size.k < size.n)
IsSizeFault size params.ManyValues =
    (2 ≤ size.n) × (size.n ≤ machine_limit) × (value_limit < size.k)

-- Each refusal to open a ring says which fault is the first: the seats, the size, the number of
-- start values, the least of them that is not below K; out of memory only where there is none of
-- these.
abbrev pub IsOpenFault : Size → List ℕ → ℕ → OpenError → Type 0
IsOpenFault size start seats opens.Seats = (seats ≡ 0) ⊎ (seat_limit < seats)
IsOpenFault size start seats (opens.Size e) = IsSeatCount seats × IsSizeFault size e
IsOpenFault size start seats opens.Length =
    IsSeatCount seats × IsSize size × IsFaultOf size start state.Length
IsOpenFault size start seats (opens.Value i) =
    IsSeatCount seats × IsSize size × IsFaultOf size start (state.Value i)
IsOpenFault size start seats opens.OutOfMemory =
    IsSeatCount seats × IsSize size × IsFaultOf size start state.OutOfMemory
