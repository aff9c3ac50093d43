use Rattle.history_states.proofs.Parts.{table_none}
use Rattle.step_states.proofs.rows.put_state.Goals as goal

pub returns-in_default : goal.returns-in_default
returns-in_default g c = table_none _ _

pub returns-in_default-privileged_of : goal.returns-in_default-privileged_of
returns-in_default-privileged_of g c = table_none _ _
