use Rattle.ring_model.specs.Groups.{IsHistory}
use Rattle.ring_model.specs.History.{opening}
use Rattle.ring_book.specs.IdleWorks.{idle}
use Rattle.ring_tests.proofs.shared.watched.run.Given as goal

abbrev pub ghosts-run_named : goal.ghosts-run_named
ghosts-run_named g a = record { start = a.draft.book.start; seats = a.draft.seats; legal = λ h. IsHistory {C = Unit {0}} idle (opening a.draft.book.start tt) h; log = a.draft.log }
