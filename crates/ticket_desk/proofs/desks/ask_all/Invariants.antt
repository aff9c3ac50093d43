use Rattle.std.proofs.Common.{◌≡◌}
use Rattle.ticket_desk.proofs.desks.ask_all.Given as goal

abbrev pub invariant-loop-machine : goal.invariant-loop-machine
invariant-loop-machine g l = l.seat.number ≡ l.initial.seat.number
