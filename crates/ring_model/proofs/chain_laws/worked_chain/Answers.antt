use Rattle.ring_model.proofs.WorkedChains.{worked_chain_is, worked_surveys_are}
use Rattle.ring_model.proofs.chain_laws.worked_chain.Goals as goal

pub returns-clause-chain : goal.returns-clause-chain
returns-clause-chain c = worked_chain_is

pub returns-clause-surveys : goal.returns-clause-surveys
returns-clause-surveys c = worked_surveys_are
