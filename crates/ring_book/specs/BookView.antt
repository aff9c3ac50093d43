-- The book as contracts see it.
use Rattle.std.specs.Prelude.{◌≡◌, ◌++◌, ◌∷◌, ◌+◌, ◌≤◌, ℕ, List, [], length, Option, None, Some}
use Rattle.ring_model.specs.Ring.{Ring}
use Rattle.ring_model.specs.History.{Works, State, Step, opening, after, IsLegal}
use Rattle.ring_model.specs.Groups.{IsWhole}
use Rattle.ring_model.specs.declared.events.Event.{Event}
use Rattle.ring_model.specs.declared.events.Op.{Op}
use Rattle.ring_model.specs.declared.events.Op.TheVariants.{Pass, Member}
use Rattle.ring_model.specs.declared.events.Receipt.{Receipt}
use Rattle.ring_state.specs.Sizes.{IsRingState, size_of}
use Rattle.ring_model.specs.Limits.{event_limit}
use Rattle.ring_book.specs.TallyView.{TallyView, IsTallyOf}
use Rattle.ring_book.specs.declared.open_books.OpenBook.{OpenBook}

-- the ring at the start, the state now, the events between the two, and how many more can be added
-- without asking for memory
pub record BookView (C : Type 0) : Type 0 where
  pub start : Ring
  pub now : State C
  pub history : List Event
  pub room : ℕ

-- the same, of the parts that an open book keeps
abbrev pub view_of : {C : Type 0} → OpenBook C → BookView C
view_of b = record {
  start = b.start;
  now = record { ring = b.ring; content = b.resource; grants = b.tally.grants.total };
  history = b.events.list;
  room = b.events.room;
}

-- The invariant of a book whose history ends in some way: it is legal, step by step, from the start
-- and leads to the state now (the one-thread ring under a central daemon, Dijkstra 1974), within
-- the limits of this project.
pub record IsBookThat {C : Type 0} (ends : ℕ → List Event → Type 0) (w : Works C) (first : C)
    (b : BookView C) : Type 0 where
  pub legal : IsLegal w (opening b.start first) b.history
  pub current : after w (opening b.start first) b.history ≡ b.now
  pub bounded : length b.history + b.room ≤ event_limit
  pub start_ring : IsRingState b.start
  pub now_ring : IsRingState b.now.ring
  pub same_size : size_of b.now.ring ≡ size_of b.start
  pub whole : ends (length b.start.values) b.history

-- The invariant of a book at every moment: its history is whole, a row of groups and of calls by
-- themselves.
abbrev pub IsBook : {C : Type 0} → Works C → C → BookView C → Type 0
IsBook w first b = IsBookThat IsWhole w first b

-- Its invariant also between the members of a group: its history may end anywhere.
abbrev pub IsOpen : {C : Type 0} → Works C → C → BookView C → Type 0
IsOpen w first b = IsBookThat (λ n h. Unit {0}) w first b

-- also, each running count is that of the history
pub record IsKept {C : Type 0} (w : Works C) (first : C) (b : BookView C) (t : TallyView) : Type 0
  where
    pub book : IsBook w first b
    pub tally : IsTallyOf w (opening b.start first) b.history t

-- the same, also between the members of a group
pub record IsOpenKept {C : Type 0} (w : Works C) (first : C) (b : BookView C) (t : TallyView) : Type
    0 where
  pub book : IsOpen w first b
  pub tally : IsTallyOf w (opening b.start first) b.history t

-- a book with no events
abbrev pub IsFresh : {C : Type 0} → Ring → C → BookView C → Type 0
IsFresh start first b = (b.start ≡ start) × (b.now ≡ opening start first) × (b.history ≡ [])

-- One call was recorded: the state made one step by the receipt's event, which is the call's and
-- is at the end of the history, at the receipt's position.
pub record IsRecorded {C : Type 0} (w : Works C) (old new : BookView C) (seat : ℕ) (op : Op)
    (r : Receipt) : Type 0 where
  pub step : Step w old.now r.event new.now
  pub grown : new.history ≡ old.history ++ r.event ∷ []
  pub position : r.position ≡ length old.history
  pub of_seat : r.event.seat ≡ seat
  pub of_call : r.event.op ≡ op
  pub same_start : new.start ≡ old.start

-- the call of a granted pass: by itself, or as a member of a group with this many left after it
abbrev pub pass_of : ℕ → ℕ → Option ℕ → Op
pass_of machine order None = Pass machine order
pass_of machine order (Some left) = Member machine order left
