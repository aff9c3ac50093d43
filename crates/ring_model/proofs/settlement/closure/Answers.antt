use Rattle.ring_model.proofs.Moves.{closed, others_keep}
use Rattle.ring_model.proofs.settlement.closure.Goals as goal

pub returns-clause-closed : goal.returns-clause-closed
returns-clause-closed c = closed

pub returns-clause-others : goal.returns-clause-others
returns-clause-others c = others_keep
