use Rattle.ring_model.proofs.Steps.{steps_are_calls, calls_have_steps}
use Rattle.ring_model.proofs.legal_histories.steps_of_calls.Goals as goal

pub returns-clause-steps : goal.returns-clause-steps
returns-clause-steps g c = steps_are_calls

pub returns-clause-calls : goal.returns-clause-calls
returns-clause-calls g c = calls_have_steps
