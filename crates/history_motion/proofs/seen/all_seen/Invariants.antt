use Rattle.history_motion.specs.Walks.{AreSeenTo}
use Rattle.saved_history.specs.Content.{block_of}
use Rattle.history_motion.proofs.seen.all_seen.Given as goal

abbrev pub invariant-loop-machine : goal.invariant-loop-machine
invariant-loop-machine l = AreSeenTo (block_of l.ring) l.from l.columns l.machine l.seen.items
