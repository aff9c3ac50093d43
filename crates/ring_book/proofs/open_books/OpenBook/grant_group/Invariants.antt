use Rattle.ring_book.specs.BookView.{view_of}
use Rattle.ring_book.proofs.GroupGrowth.{MembersTo}
use Rattle.ring_book.proofs.open_books.OpenBook.grant_group.Given as goal

abbrev pub invariant-loop-turn : goal.invariant-loop-turn
invariant-loop-turn g l =
    MembersTo g.R.Resource.works g.R.Resource.first (view_of l.fn.self) l.seat l.order l.machines (view_of l.self) l.self.tally l.turn
