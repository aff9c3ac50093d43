use Rattle.ring_model.proofs.Descent.{descent}
use Rattle.ring_model.proofs.Meaning.{rest_is_zero}
use Rattle.ring_model.proofs.settlement.descent.Goals as goal

pub returns-clause-falls : goal.returns-clause-falls
returns-clause-falls c = descent

pub returns-clause-zero : goal.returns-clause-zero
returns-clause-zero c = rest_is_zero
