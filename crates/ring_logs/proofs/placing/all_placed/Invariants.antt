use Rattle.std.proofs.Common.{◌≡◌, map}
use Rattle.ring_logs.specs.Walks.{walk_of}
use Rattle.ring_logs.proofs.placing.all_placed.Given as goal

abbrev pub invariant-loop-block : goal.invariant-loop-block
invariant-loop-block g l = l.walks.items ≡ map (walk_of l.book.history) l.fn.logs
