use Rattle.std.proofs.Common.{◌≡◌, drop, map}
use Rattle.ring_service.specs.Standings.{standing_of}
use Rattle.ring_service.specs.Due.{has_short}
use Rattle.ring_service.proofs.served.has_short.Given as goal

abbrev pub invariant-loop-ring : goal.invariant-loop-ring
invariant-loop-ring l = has_short (map standing_of (drop l.ring-index l.rings)) ≡ has_short (map standing_of l.rings)
