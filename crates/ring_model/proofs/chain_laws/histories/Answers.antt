use Rattle.ring_model.proofs.ChainHistories.{chains_are_histories, remainders_are_chains}
use Rattle.ring_model.proofs.chain_laws.histories.Goals as goal

pub returns-clause-histories : goal.returns-clause-histories
returns-clause-histories c = chains_are_histories

pub returns-clause-remainders : goal.returns-clause-remainders
returns-clause-remainders c = remainders_are_chains
