use Rattle.std.proofs.Common.{◌+◌}
use Rattle.history_motion.specs.Walks.{IsWalk, AreStates}
use Rattle.history_motion.proofs.seen.states_of.Given as goal

abbrev pub invariant-loop-column : goal.invariant-loop-column
invariant-loop-column l = record {
  walk : IsWalk l.ring (l.from + l.column) l.walk;
  states : AreStates l.ring l.from l.column l.states.items;
}
