use Rattle.std.proofs.Common.{◌≡◌, replicate, None}
use Rattle.name_remarks.proofs.recorded.unbound.Given as goal

abbrev pub invariant-loop : goal.invariant-loop
invariant-loop l = l.rings.items ≡ replicate l.counter None
