use Rattle.std.proofs.Common.{◌≡◌}
use Rattle.ring_logs.proofs.placing.all_walk.Given as goal

abbrev pub invariant-loop-i : goal.invariant-loop-i
invariant-loop-i l = l.walks.items ≡ l.initial.walks.items
