-- The events that a book does not have.
use Rattle.std.proofs.Common.{◌≡◌, ℕ, ◌+◌, List, subst}
use Rattle.ring_model.specs.Ring.{Ring}
use Rattle.ring_model.specs.History.{Works, State, opening, IsLegal}
use Rattle.ring_model.specs.declared.events.Event.{Event}
use Rattle.ring_book.specs.BookView.{BookView, IsBook}
use Rattle.ring_book.specs.BookHistory.{IsBookHistory, IsFirstWrong}
use Rattle.ring_book.proofs.Replaying.{never_wrong}

pub book_is_legal : {C : Type 0} (w : Works C) (first : C) (b : BookView C) (start : Ring) (es : List Event) → IsBook w first b → (IsLegal w (opening start first) es → ⊥) → b.start ≡ start → b.history ≡ es → ⊥
book_is_legal w first b start es k none s h = none (subst (λ (r : Ring). IsLegal w (opening r first) es) s (subst (λ (x : List Event). IsLegal w (opening b.start first) x) h k.legal))

pub right_is_not_wrong : {C : Type 0} (w : Works C) (a : State C) (h : List Event) (place : ℕ) → IsBookHistory w a h → IsFirstWrong w a h place → ⊥
right_is_not_wrong w a h place right wrong = never_wrong w a h place right wrong

pub one_is_first : {C : Type 0} (w : Works C) (a : State C) (h : List Event) (place : ℕ) → IsFirstWrong w a h place → IsFirstWrong w a h (place + 1) → ⊥
one_is_first w a h place f g = f.wrong g.before
