-- The events of a history by their seats, and what a seat is answered of some of them (this project's
-- own).
use Rattle.std.specs.Prelude.{ℕ, ◌+◌, ◌<◌, List, [], ◌∷◌, All}
use Rattle.ring_model.specs.declared.events.Event.{Event}
use Rattle.ring_model.specs.declared.events.Entry.{Entry}
use Rattle.ring_model.specs.declared.events.Entry.TheVariants as entry

-- each event's seat is below this number
abbrev pub AreOfSeats : ℕ → List Event → Type 0
AreOfSeats seats h = All (λ (e : Event). e.seat < seats) h

-- the receipts of events that follow one another in a history, from this position on
abbrev pub receipts_from : ℕ → List Event → List Entry
receipts_from position [] = []
receipts_from position (e ∷ es) =
    entry.Receipt (record { position = position; event = e }) ∷ receipts_from (position + 1) es
