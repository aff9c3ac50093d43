use Rattle.std.proofs.Common.{◌≡◌, length}
use Rattle.held_locks.specs.Queues.{comes_to}
use Rattle.held_locks.specs.Kept.{locks_of}
use Rattle.held_locks.specs.Parts.{views_of}
use Rattle.held_locks.proofs.locks.comes_back.Given as goal

abbrev pub invariant-loop-more : goal.invariant-loop-more
invariant-loop-more l = comes_to l.more (locks_of (views_of l.locks)) l.asker l.at ≡ comes_to (length l.locks) (locks_of (views_of l.locks)) l.asker l.fn.from

abbrev pub decreases-loop-more : goal.decreases-loop-more
decreases-loop-more l = l.more
