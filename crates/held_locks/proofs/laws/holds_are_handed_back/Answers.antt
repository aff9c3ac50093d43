use Rattle.held_locks.proofs.HandedOver.{holds_are_handed_back}
use Rattle.held_locks.proofs.laws.holds_are_handed_back.Goals as goal

pub returns : goal.returns
returns c = holds_are_handed_back
