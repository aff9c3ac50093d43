use Rattle.std.proofs.Common.{◌≡◌}
use Rattle.ring_tests.proofs.shared.groups.refuses.Given as goal

abbrev pub invariant-loop-case : goal.invariant-loop-case
invariant-loop-case g l = l.seat.number ≡ l.initial.seat.number
