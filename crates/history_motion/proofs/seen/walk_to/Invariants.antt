use Rattle.history_motion.specs.Walks.{IsWalk}
use Rattle.history_motion.proofs.seen.walk_to.Given as goal

abbrev pub invariant-loop-i : goal.invariant-loop-i
invariant-loop-i l = IsWalk l.ring l.i l.walk
