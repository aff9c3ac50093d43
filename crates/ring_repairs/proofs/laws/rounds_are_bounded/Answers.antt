use Rattle.ring_repairs.proofs.RoundFacts.{turns_asked, one_round, rounds_are_bounded}
use Rattle.ring_repairs.proofs.laws.rounds_are_bounded.Goals as goal

pub returns-clause-asked : goal.returns-clause-asked
returns-clause-asked c = turns_asked

pub returns-clause-one : goal.returns-clause-one
returns-clause-one c = one_round

pub returns-clause-bounded : goal.returns-clause-bounded
returns-clause-bounded c = rounds_are_bounded
