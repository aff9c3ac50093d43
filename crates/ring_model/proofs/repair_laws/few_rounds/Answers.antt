use Rattle.ring_model.proofs.FewRounds.{few_rounds_settle}
use Rattle.ring_model.proofs.SlowRuns.{few_rounds_are_sharp}
use Rattle.ring_model.proofs.repair_laws.few_rounds.Goals as goal

pub returns-clause-settle : goal.returns-clause-settle
returns-clause-settle c = few_rounds_settle

pub returns-clause-sharp : goal.returns-clause-sharp
returns-clause-sharp c = few_rounds_are_sharp
