use Rattle.std.proofs.Common.{sym, ◌∙◌}
use Rattle.wrong_shared_bodies.proofs.Closed.{recorded_changes}
use Rattle.wrong_shared_bodies.proofs.openings.book_handed_back_with_an_event.Goals as goal

pub returns : goal.returns
returns g c = record { wrong = λ p. recorded_changes _ _ _ _ _ _ c.in-Ok.ensures.ok (p ∙ sym c.into_book-book.ensures) }
