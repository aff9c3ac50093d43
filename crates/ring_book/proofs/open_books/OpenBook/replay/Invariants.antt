use Rattle.std.proofs.Common.{◌≡◌, ◌+◌, take}
use Rattle.ring_book.specs.BookView.{view_of}
use Rattle.ring_book.specs.BookHistory.{HasReplayed}
use Rattle.ring_book.proofs.open_books.OpenBook.replay.Given as goal

abbrev pub invariant-loop-place : goal.invariant-loop-place
invariant-loop-place g l = record {
  replayed : HasReplayed g.R.Resource.works g.R.Resource.first l.fn.self.start (take l.place l.events) (view_of l.self) l.self.tally;
  room : l.self.events.room + l.place ≡ l.fn.self.events.room;
}
