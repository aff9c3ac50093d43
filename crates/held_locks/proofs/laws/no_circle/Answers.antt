use Rattle.held_locks.proofs.Answered.{no_circle, circles_are_real}
use Rattle.held_locks.proofs.laws.no_circle.Goals as goal

pub returns-clause-none : goal.returns-clause-none
returns-clause-none c = no_circle

pub returns-clause-real : goal.returns-clause-real
returns-clause-real c = circles_are_real
