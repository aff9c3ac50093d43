use Rattle.held_locks.proofs.TheirHolds.{handed_holds_are_theirs}
use Rattle.held_locks.proofs.laws.handed_holds_are_theirs.Goals as goal

pub returns : goal.returns
returns c = handed_holds_are_theirs
