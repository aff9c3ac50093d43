use Rattle.held_locks.proofs.Excluded.{exclusion, others_release_nothing}
use Rattle.held_locks.proofs.laws.exclusion.Goals as goal

pub returns-clause-excluded : goal.returns-clause-excluded
returns-clause-excluded c = exclusion

pub returns-clause-others : goal.returns-clause-others
returns-clause-others c = others_release_nothing
