use Rattle.ring_model.proofs.ChainHistories.{numbers_rise}
use Rattle.ring_model.proofs.chain_laws.grant_numbers.Goals as goal

pub returns : goal.returns
returns c = numbers_rise
