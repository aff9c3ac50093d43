use Rattle.std.specs.Prelude.{ℕ}
use Rattle.ring_model.specs.Groups.{IsHistory}
use Rattle.ring_model.specs.History.{opening}
use Rattle.ring_model.specs.Resources.{till}
use Rattle.ring_turns.specs.Spared.{spared}
use Rattle.ring_tests.proofs.turns.threads.run.Given as goal

abbrev pub ghosts-run_named : goal.ghosts-run_named
ghosts-run_named g a = record { start = a.draft.book.start; seats = a.draft.seats; legal = λ h. IsHistory {C = ℕ} (spared till) (opening a.draft.book.start 0) h; log = a.draft.log }
