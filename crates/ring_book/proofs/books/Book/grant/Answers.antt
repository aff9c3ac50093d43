use Rattle.ring_book.proofs.Growth.{alone_keeps}
use Rattle.ring_book.proofs.Repairing.{book_settlement}
use Rattle.ring_book.proofs.books.Book.grant.Goals as goal

pub invariant_of-self : goal.invariant_of-self
invariant_of-self g c = alone_keeps _ _ _ _ _ _ _ _ tt c.grant.ensures.kept c.grant.ensures.recorded c.self.invariant.book.whole

pub returns-clause-book : goal.returns-clause-book
returns-clause-book g c = (invariant_of-self g c).book

pub returns-clause-settlement : goal.returns-clause-settlement
returns-clause-settlement g c = book_settlement _ _ _ (returns-clause-book g c)
