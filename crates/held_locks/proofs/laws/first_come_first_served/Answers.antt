use Rattle.held_locks.proofs.Order.{first_come_first_served}
use Rattle.held_locks.proofs.laws.first_come_first_served.Goals as goal

pub returns : goal.returns
returns c = first_come_first_served
