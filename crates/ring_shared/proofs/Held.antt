-- One call more of a ring's book.
use Rattle.std.proofs.Common.{ℕ, ◌<◌, List, [], ◌∷◌, ◌++◌, sym, subst, ◌∙◌}
use Rattle.std.proofs.lemmas.List.Elements.{All-push}
use Rattle.ring_model.specs.Ring.{Ring}
use Rattle.ring_model.specs.History.{Works}
use Rattle.ring_model.specs.declared.events.Op.{Op}
use Rattle.ring_model.specs.declared.events.Event.{Event}
use Rattle.ring_model.specs.declared.events.Receipt.{Receipt}
use Rattle.ring_book.specs.BookView.{BookView, IsBook, IsRecorded}
use Rattle.ring_shared.specs.Holding.{IsHeld}
use Rattle.ring_logs.specs.Seats.{AreOfSeats}

of_seats_more : (seats : ℕ) (h : List Event) (e : Event) → AreOfSeats seats h → e.seat < seats → AreOfSeats seats (h ++ e ∷ [])
of_seats_more seats h e all one = All-push (λ (x : Event). x.seat < seats) h e all one

pub held_more : {C : Type 0} (w : Works C) (first : C) (start : Ring) (seats : ℕ) (legal : List Event → Type 0) (old new : BookView C) (seat : ℕ) (op : Op) (r : Receipt) →
    IsHeld w first start seats legal old → IsBook w first new → IsRecorded w old new seat op r → seat < seats → IsHeld w first start seats legal new
held_more w first start seats legal old new seat op r held book rec within = record {
  book = book;
  begins = rec.same_start ∙ held.begins;
  of_seats = subst (AreOfSeats seats) (sym rec.grown) (of_seats_more seats old.history r.event held.of_seats (subst (λ (k : ℕ). k < seats) (sym rec.of_seat) within));
  means_legal = held.means_legal;
}
