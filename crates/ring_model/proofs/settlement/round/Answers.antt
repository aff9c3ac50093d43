use Rattle.ring_model.proofs.Runs.{round}
use Rattle.ring_model.proofs.settlement.round.Goals as goal

pub returns : goal.returns
returns c = round
