use Rattle.std.proofs.Common.{map, take}
use Rattle.std.specs.List.{AllByRecursion}
use Rattle.ring_service.specs.Standings.{standing_of}
use Rattle.ring_service.specs.Segments.{AreNext, HasRoom}
use Rattle.ring_service.proofs.segments.next_rings.Given as goal

abbrev pub invariant-loop-ring : goal.invariant-loop-ring
invariant-loop-ring l = AreNext (map standing_of (take l.ring-index l.rings)) l.next × AllByRecursion HasRoom (map standing_of (take l.ring-index l.rings))
