use Rattle.std.proofs.Common.{◌≡◌, take}
use Rattle.ring_service.proofs.Counting.{kept_count}
use Rattle.ring_service.proofs.totals.surveys_of.Given as goal

abbrev pub invariant-loop-client : goal.invariant-loop-client
invariant-loop-client l = l.all ≡ kept_count (take l.client-index l.clients)
