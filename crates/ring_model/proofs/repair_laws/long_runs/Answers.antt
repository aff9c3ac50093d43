use Rattle.ring_model.proofs.LongRuns.{long_run_settles}
use Rattle.ring_model.proofs.LongestRepair.{long_runs_are_sharp}
use Rattle.ring_model.proofs.repair_laws.long_runs.Goals as goal

pub returns-clause-settle : goal.returns-clause-settle
returns-clause-settle c = long_run_settles

pub returns-clause-sharp : goal.returns-clause-sharp
returns-clause-sharp c = long_runs_are_sharp
