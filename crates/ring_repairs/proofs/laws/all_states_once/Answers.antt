use Rattle.ring_repairs.proofs.AllStates.{all_states_once}
use Rattle.ring_repairs.proofs.laws.all_states_once.Goals as goal

pub returns : goal.returns
returns c = all_states_once
