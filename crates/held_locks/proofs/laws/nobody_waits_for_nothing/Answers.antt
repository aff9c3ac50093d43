use Rattle.held_locks.proofs.Answered.{nobody_waits_for_nothing}
use Rattle.held_locks.proofs.laws.nobody_waits_for_nothing.Goals as goal

pub returns : goal.returns
returns c = nobody_waits_for_nothing
