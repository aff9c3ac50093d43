use Rattle.std.proofs.Common.{◌≡◌}
use Rattle.ring_tests.proofs.shared.calls.play.Given as goal

abbrev pub invariant-loop-call : goal.invariant-loop-call
invariant-loop-call g l = (l.first.number ≡ l.initial.first.number) × (l.second.number ≡ l.initial.second.number)
