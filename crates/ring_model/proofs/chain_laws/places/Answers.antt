use Rattle.ring_model.proofs.ChainHistories.{segments_continue}
use Rattle.ring_model.proofs.chain_laws.places.Goals as goal

pub returns : goal.returns
returns c = segments_continue
