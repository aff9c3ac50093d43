use Rattle.std.proofs.Common.{length}
use Rattle.ring_model.specs.Groups.{IsWhole}
use Rattle.ring_book.proofs.Growth.{alone_keeps}
use Rattle.ring_book.proofs.Repairing.{book_settlement}
use Rattle.ring_book.proofs.books.Book.corrupt.Goals as goal

pub returns-in_err-reserve-clause-settlement : goal.returns-in_err-reserve-clause-settlement
returns-in_err-reserve-clause-settlement g c = rw c.in_err-reserve.ensures.list (book_settlement _ _ _ c.self.invariant.book)

pub invariant_of-self-2 : goal.invariant_of-self-2
invariant_of-self-2 g c =
    let whole : IsWhole (length c.self.inside.parts.start.values) c.reserve.new.self.list = rw c.in_ok-reserve.ensures.list c.self.invariant.book.whole in
    alone_keeps _ _ _ _ _ _ _ _ tt c.corrupt.ensures.kept c.corrupt.ensures.recorded whole

pub returns-clause-book : goal.returns-clause-book
returns-clause-book g c = (invariant_of-self-2 g c).book

pub returns-clause-settlement : goal.returns-clause-settlement
returns-clause-settlement g c = book_settlement _ _ _ (returns-clause-book g c)
