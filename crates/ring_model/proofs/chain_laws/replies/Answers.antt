use Rattle.ring_model.proofs.ChainHistories.{replies_are_right}
use Rattle.ring_model.proofs.chain_laws.replies.Goals as goal

pub returns : goal.returns
returns c = replies_are_right
