use Rattle.ring_book.proofs.Repairing.{book_progress, book_settlement}
use Rattle.ring_book.proofs.books.Book.history.Goals as goal

pub returns-clause-settlement : goal.returns-clause-settlement
returns-clause-settlement g c = rw (← c.self.view_is) (book_settlement _ _ _ c.self.invariant.book)

pub returns-clause-progress : goal.returns-clause-progress
returns-clause-progress g c = rw (← c.self.view_is) (book_progress _ _ _ c.self.invariant.book)
