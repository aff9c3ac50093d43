use Rattle.std.proofs.Common.{refl}
use Rattle.ring_model.specs.History.{opening}
use Rattle.ring_book.proofs.Growth.{survey_end}
use Rattle.ring_book.proofs.Repairing.{book_progress, book_settlement, calm_settles}
use Rattle.ring_book.proofs.books.Book.survey.Goals as goal

pub returns-clause-is : goal.returns-clause-is
returns-clause-is g c =
    rw (
      ← c.self.view_is,
      survey_end g.R.Resource.works (opening c.self.inside.parts.start g.R.Resource.first) c.self.inside.parts.events.list,
      c.survey_here.ensures,
      c.as_slice.ensures.is,
      c.calm.ensures,
      c.self.invariant.book.current,
      c.self.invariant.tally.calm,
    ) refl

pub returns-clause-settlement : goal.returns-clause-settlement
returns-clause-settlement g c = rw (← c.self.view_is) (book_settlement _ _ _ c.self.invariant.book)

pub returns-clause-progress : goal.returns-clause-progress
returns-clause-progress g c = rw (← c.self.view_is) (book_progress _ _ _ c.self.invariant.book)

pub returns-clause-calm : goal.returns-clause-calm
returns-clause-calm g c =
    rw (← c.self.view_is, c.survey_here.ensures, c.calm.ensures, c.self.invariant.tally.calm) (calm_settles _ _ _ c.self.invariant.book)
