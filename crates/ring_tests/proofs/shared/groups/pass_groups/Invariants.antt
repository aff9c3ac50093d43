use Rattle.std.proofs.Common.{◌≡◌}
use Rattle.ring_tests.proofs.shared.groups.pass_groups.Given as goal

abbrev pub invariant-loop-turn : goal.invariant-loop-turn
invariant-loop-turn g l = l.seat.number ≡ l.initial.seat.number
