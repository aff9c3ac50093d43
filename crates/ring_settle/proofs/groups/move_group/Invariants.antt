use Rattle.ring_settle.proofs.GroupSteps.{MovesTo}
use Rattle.ring_settle.proofs.groups.move_group.Given as goal

abbrev pub invariant-loop-turn : goal.invariant-loop-turn
invariant-loop-turn l = MovesTo l.fn.state l.machines l.state l.turn
