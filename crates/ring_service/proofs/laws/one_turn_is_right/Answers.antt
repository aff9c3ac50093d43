use Rattle.ring_service.proofs.Lines.{one_turn}
use Rattle.ring_service.proofs.laws.one_turn_is_right.Goals as goal

pub returns : goal.returns
returns c = one_turn
