use Rattle.ring_model.proofs.Steps.{histories_are_runs, runs_are_histories}
use Rattle.ring_model.proofs.legal_histories.runs_of_choices.Goals as goal

pub returns-clause-histories : goal.returns-clause-histories
returns-clause-histories g c = histories_are_runs

pub returns-clause-runs : goal.returns-clause-runs
returns-clause-runs g c = runs_are_histories
