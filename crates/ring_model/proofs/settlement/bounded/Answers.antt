use Rattle.ring_model.proofs.Bound.{rest_bounded}
use Rattle.ring_model.proofs.settlement.bounded.Goals as goal

pub returns : goal.returns
returns c = rest_bounded
