use Rattle.held_locks.proofs.Shown.{one_event_each}
use Rattle.held_locks.proofs.laws.one_event_each.Goals as goal

pub returns : goal.returns
returns c = one_event_each
