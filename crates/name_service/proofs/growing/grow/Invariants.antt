use Rattle.name_service.specs.Growth.{AreGrown}
use Rattle.name_service.proofs.growing.grow.Given as goal

abbrev pub invariant-loop : goal.invariant-loop
invariant-loop l = AreGrown l.size l.fn.names l.counter l.grown
