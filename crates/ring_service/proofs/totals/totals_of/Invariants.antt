use Rattle.std.proofs.Common.{◌≡◌, take, map}
use Rattle.ring_service.specs.Standings.{standing_of}
use Rattle.ring_service.specs.Totals.{totals_of}
use Rattle.ring_service.proofs.totals.totals_of.Given as goal

abbrev pub invariant-loop-ring : goal.invariant-loop-ring
invariant-loop-ring l = l.all ≡ totals_of (map standing_of (take l.ring-index l.rings))
