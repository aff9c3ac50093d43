use Rattle.std.proofs.Common.{◌≡◌, map, take}
use Rattle.ring_logs.specs.Walks.{walk_of}
use Rattle.ring_logs.proofs.placing.walks_of.Given as goal

abbrev pub invariant-loop-log : goal.invariant-loop-log
invariant-loop-log g l = l.walks.items ≡ map (walk_of l.book.history) (take l.log-index l.logs)
