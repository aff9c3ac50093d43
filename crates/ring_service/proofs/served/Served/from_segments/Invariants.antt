use Rattle.std.proofs.Common.{take}
use Rattle.ring_service.specs.Starting.{AreResumedAfter}
use Rattle.ring_service.proofs.served.Served.from_segments.Given as goal

abbrev pub invariant-loop-number : goal.invariant-loop-number
invariant-loop-number l = AreResumedAfter l.bases l.served (take l.number l.saved.rings.items)
