use Rattle.ring_service.proofs.ChainCalls.{calls_are_in_chains}
use Rattle.ring_service.proofs.recovered.answered_calls_are_in_chains.Goals as goal

pub returns : goal.returns
returns c = calls_are_in_chains
