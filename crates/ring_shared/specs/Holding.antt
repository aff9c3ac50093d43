-- The invariant of a ring's book whenever its lock is free (this project's own).
use Rattle.std.specs.Prelude.{◌≡◌, ℕ, ◌↔◌, List}
use Rattle.ring_model.specs.Ring.{Ring}
use Rattle.ring_model.specs.History.{Works, opening}
use Rattle.ring_model.specs.Groups.{IsHistory}
use Rattle.ring_model.specs.declared.events.Event.{Event}
use Rattle.ring_book.specs.BookView.{BookView, IsBook}
use Rattle.ring_logs.specs.Seats.{AreOfSeats}

-- legal, as a name says it, is a history of the one-thread ring from the start and the resource's
-- first content
abbrev pub MeansLegal : {C : Type 0} → Works C → C → Ring → (List Event → Type 0) → Type 0
MeansLegal w first start legal = (h : List Event) → legal h ↔ IsHistory w (opening start first) h

-- a book, with the start, the seats and the legal histories of a name
pub record IsHeld {C : Type 0} (w : Works C) (first : C) (start : Ring) (seats : ℕ)
    (legal : List Event → Type 0) (b : BookView C) : Type 0 where
  pub book : IsBook w first b
  pub begins : b.start ≡ start
  pub of_seats : AreOfSeats seats b.history
  pub means_legal : MeansLegal w first start legal
