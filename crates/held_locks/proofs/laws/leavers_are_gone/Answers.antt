use Rattle.held_locks.proofs.AllLeft.{leavers_are_gone}
use Rattle.held_locks.proofs.laws.leavers_are_gone.Goals as goal

pub returns : goal.returns
returns c = leavers_are_gone
