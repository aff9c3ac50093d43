use Rattle.std.proofs.Common.{take}
use Rattle.ring_service.specs.Starting.{AreResumed}
use Rattle.ring_service.proofs.served.Served.from_saved.Given as goal

abbrev pub invariant-loop-number : goal.invariant-loop-number
invariant-loop-number l = AreResumed l.served (take l.number l.saved.rings.items)
