-- An opened ring as contracts see it.
use Rattle.std.specs.Prelude.{◌≡◌, ℕ, ◌<◌, ◌≤◌, List, [], length, Some, slice_get}
use Rattle.logbook.specs.Pages.{Book}
use Rattle.ring_book.specs.BookView.{BookView}
use Rattle.ring_model.specs.Ring.{Ring}
use Rattle.ring_model.specs.History.{Works}
use Rattle.ring_model.specs.Limits.{seat_limit}
use Rattle.ring_model.specs.declared.events.Event.{Event}
use Rattle.ring_state.specs.Sizes.{IsRingState}
use Rattle.ring_shared.specs.Client.{Client, IsFreshClient}
use Rattle.ring_shared.specs.Holding.{MeansLegal}

-- a book, for how many seats it is, and the log of events that the ring will have
pub record Drafted (C : Type 0) : Type 0 where
  pub book : BookView C
  pub seats : ℕ
  pub log : Book

-- no events yet, and 1 to 10 seats (this project's own limit)
pub record IsDraft {C : Type 0} (d : Drafted C) : Type 0 where
  pub empty : d.book.history ≡ []
  pub some : 1 ≤ d.seats
  pub most : d.seats ≤ seat_limit

-- this many seats, numbered in their order, that have called nothing and seen nothing
pub record AreFresh (number_of_seats : ℕ) (seats : List Client) : Type 0 where
  pub count : length seats ≡ number_of_seats
  pub each : (i : ℕ) → i < number_of_seats
      → (s : Client) × (slice_get seats i ≡ Some s) × IsFreshClient i s

-- the data that a ring keeps beside its lock: how many seats it has, that its start is a ring, and
-- the meaning of "legal"
pub record IsRingOf {C : Type 0} (w : Works C) (first : C) (start : Ring) (seats : ℕ)
    (legal : List Event → Type 0) (counted : ℕ) : Type 0 where
  pub count : counted ≡ seats
  pub start_ring : IsRingState start
  pub means_legal : MeansLegal w first start legal
