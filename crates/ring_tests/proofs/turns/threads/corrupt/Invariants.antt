use Rattle.std.proofs.Common.{◌≡◌}
use Rattle.ring_tests.proofs.turns.threads.corrupt.Given as goal

abbrev pub invariant-loop-fault : goal.invariant-loop-fault
invariant-loop-fault g l = l.seat.number ≡ l.initial.seat.number
