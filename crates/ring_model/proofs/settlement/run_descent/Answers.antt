use Rattle.ring_model.proofs.Runs.{run_descent, run_settles}
use Rattle.ring_model.proofs.settlement.run_descent.Goals as goal

pub returns-clause-falls : goal.returns-clause-falls
returns-clause-falls c = run_descent

pub returns-clause-settles : goal.returns-clause-settles
returns-clause-settles c = run_settles
