use Rattle.std.proofs.Common.{◌≡◌, ◌≤◌, ◌+◌, List, ◌++◌, map}
use Rattle.held_locks.specs.Locks.{Mark, Call, repairs}
use Rattle.held_locks.specs.Kept.{state_of, IsKeptRing, AreMade}
use Rattle.held_locks.proofs.marks.repair.Given as goal

abbrev pub invariant-loop-more : goal.invariant-loop-more
invariant-loop-more l = record {
  kept : IsKeptRing l.ring;
  room : l.more ≤ l.ring.ring.book.room;
  fewer : l.more ≤ l.most;
  spent : l.fn.ring.ring.book.room + l.more ≤ l.ring.ring.book.room + l.most;
  made : (ms : List Mark) × AreMade l.fn.ring ms l.ring × (ms ++ map Call (repairs l.more (state_of l.ring)) ≡ map Call (repairs l.most (state_of l.fn.ring)));
}

abbrev pub decreases-loop-more : goal.decreases-loop-more
decreases-loop-more l = l.more
