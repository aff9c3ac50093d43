use Rattle.std.proofs.Common.{◌∙◌}
use Rattle.ring_book.proofs.books.Book.calm.Goals as goal

pub returns-clause-is : goal.returns-clause-is
returns-clause-is g c = rw (← c.self.view_is) (c.calm.ensures ∙ c.self.invariant.tally.calm)
