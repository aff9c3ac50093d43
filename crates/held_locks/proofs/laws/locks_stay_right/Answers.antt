use Rattle.held_locks.proofs.Right.{empty_queues_are_right, right_stays}
use Rattle.held_locks.proofs.laws.locks_stay_right.Goals as goal

pub returns-clause-empty : goal.returns-clause-empty
returns-clause-empty c = empty_queues_are_right

pub returns-clause-stay : goal.returns-clause-stay
returns-clause-stay c = right_stays
