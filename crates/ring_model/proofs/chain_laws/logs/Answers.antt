use Rattle.ring_model.proofs.Seen.{logs_fit, logs_from_start}
use Rattle.ring_model.proofs.chain_laws.logs.Goals as goal

pub returns-clause-fit : goal.returns-clause-fit
returns-clause-fit c = logs_fit

pub returns-clause-start : goal.returns-clause-start
returns-clause-start c = logs_from_start
