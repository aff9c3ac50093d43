use Rattle.name_history.specs.Said.{AreKept}
use Rattle.name_history.proofs.ring_names.names_of_rings.Given as goal

abbrev pub invariant-loop-binding : goal.invariant-loop-binding
invariant-loop-binding l = AreKept l.rings l.yielded l.each.items
