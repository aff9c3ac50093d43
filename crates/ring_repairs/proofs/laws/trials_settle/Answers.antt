use Rattle.ring_repairs.proofs.TrialFacts.{trials_start, trials_settle, trials_settle_first}
use Rattle.ring_repairs.proofs.laws.trials_settle.Goals as goal

pub returns-clause-start : goal.returns-clause-start
returns-clause-start c = trials_start

pub returns-clause-settle : goal.returns-clause-settle
returns-clause-settle c = trials_settle

pub returns-clause-first : goal.returns-clause-first
returns-clause-first c = trials_settle_first
