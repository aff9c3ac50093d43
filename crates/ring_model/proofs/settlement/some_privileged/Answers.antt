use Rattle.ring_model.proofs.Meaning.{some_privileged}
use Rattle.ring_model.proofs.settlement.some_privileged.Goals as goal

pub returns : goal.returns
returns c = some_privileged
