use Rattle.ring_model.specs.Groups.{IsHistory}
use Rattle.ring_model.specs.History.{opening}
use Rattle.ring_turns.specs.Spared.{spared}
use Rattle.ticket_desk.specs.Tickets.{roll}
use Rattle.ticket_desk.proofs.clients.draw_in_turns.Given as goal

abbrev pub ghosts-run_named : goal.ghosts-run_named
ghosts-run_named g a = record { start = a.draft.book.start; seats = a.draft.seats; legal = λ h. IsHistory (spared roll) (opening a.draft.book.start 0) h; log = a.draft.log }
