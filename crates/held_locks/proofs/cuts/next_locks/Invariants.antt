use Rattle.std.proofs.Common.{take}
use Rattle.held_locks.specs.Cuts.{AreNext}
use Rattle.held_locks.specs.Parts.{views_of}
use Rattle.held_locks.proofs.cuts.next_locks.Given as goal

abbrev pub invariant-loop-lock : goal.invariant-loop-lock
invariant-loop-lock l = AreNext (views_of (take l.lock-index l.locks)) (views_of l.next.items)
