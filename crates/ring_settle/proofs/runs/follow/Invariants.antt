use Rattle.ring_settle.proofs.Potentials.{FollowsTo}
use Rattle.ring_settle.proofs.runs.follow.Given as goal

abbrev pub invariant-loop-machine : goal.invariant-loop-machine
invariant-loop-machine l = FollowsTo l.fn.state l.choices l.state l.granted l.machine-index
