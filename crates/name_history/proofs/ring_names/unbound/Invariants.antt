use Rattle.std.proofs.Common.{◌≡◌, [], replicate}
use Rattle.name_history.proofs.ring_names.unbound.Given as goal

abbrev pub invariant-loop : goal.invariant-loop
invariant-loop l = l.each.items ≡ replicate l.counter []
