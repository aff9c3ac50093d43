use Rattle.ring_repairs.proofs.TrialFacts.{trials_are_granted, trials_are_bounded}
use Rattle.ring_repairs.proofs.laws.trials_are_bounded.Goals as goal

pub returns-clause-granted : goal.returns-clause-granted
returns-clause-granted c = trials_are_granted

pub returns-clause-bounded : goal.returns-clause-bounded
returns-clause-bounded c = trials_are_bounded
