use Rattle.ring_model.proofs.Worked.{worked_places, worked_grants, worked_logs}
use Rattle.ring_model.proofs.meanings.worked_history.Goals as goal

pub returns-clause-places : goal.returns-clause-places
returns-clause-places c = worked_places

pub returns-clause-grants : goal.returns-clause-grants
returns-clause-grants c = worked_grants

pub returns-clause-logs : goal.returns-clause-logs
returns-clause-logs c = worked_logs
