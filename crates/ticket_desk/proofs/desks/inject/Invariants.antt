use Rattle.std.proofs.Common.{◌≡◌}
use Rattle.ticket_desk.proofs.desks.inject.Given as goal

abbrev pub invariant-loop-fault : goal.invariant-loop-fault
invariant-loop-fault g l = l.seat.number ≡ l.initial.seat.number
