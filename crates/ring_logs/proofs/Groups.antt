-- The block of a group in the history of its book.
use Rattle.std.proofs.Common.{◌≡◌, ℕ, List, length, drop, ◌∙◌, ap}
use Rattle.std.proofs.Math.Seq.{drop-append_seam}
use Rattle.ring_model.specs.History.{Works}
use Rattle.ring_model.specs.declared.events.Event.{Event}
use Rattle.ring_book.specs.BookView.{BookView}
use Rattle.ring_book.specs.GroupView.{IsGroupRecorded}
use Rattle.ring_book.specs.declared.books.groups.GroupReceipt.{GroupReceipt}

-- the events from a group's first position on are its block
pub group_events : {C : Type 0} (w : Works C) (old new : BookView C) (seat order : ℕ) (machines : List ℕ) (r : GroupReceipt) (g : IsGroupRecorded w old new seat order machines r) →
    drop r.first new.history ≡ g.moved.events
group_events w old new seat order machines r g =
    ap (λ (x : ℕ). drop x new.history) g.first ∙ (ap (λ (h : List Event). drop (length old.history) h) g.moved.grown ∙ drop-append_seam old.history g.moved.events)
