use Rattle.ring_service.proofs.ChainRecovering.{keeps_calls}
use Rattle.ring_service.proofs.kept_calls.segments_keep_calls.Goals as goal

pub returns : goal.returns
returns c = keeps_calls
