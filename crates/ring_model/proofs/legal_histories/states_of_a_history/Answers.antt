use Rattle.ring_model.proofs.Statewise.{legal_where_runs, states_are_unique, states_are_after}
use Rattle.ring_model.proofs.legal_histories.states_of_a_history.Goals as goal

pub returns-clause-legal : goal.returns-clause-legal
returns-clause-legal g c = legal_where_runs

pub returns-clause-unique : goal.returns-clause-unique
returns-clause-unique g c = states_are_unique

pub returns-clause-after : goal.returns-clause-after
returns-clause-after g c = states_are_after
