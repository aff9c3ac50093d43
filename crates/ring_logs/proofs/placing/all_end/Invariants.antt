use Rattle.std.proofs.Common.{All, take}
use Rattle.ring_logs.specs.Walks.{IsPlacedWalk}
use Rattle.ring_logs.proofs.placing.all_end.Given as goal

abbrev pub invariant-loop-walk : goal.invariant-loop-walk
invariant-loop-walk l = All IsPlacedWalk (take l.walk-index l.walks)
