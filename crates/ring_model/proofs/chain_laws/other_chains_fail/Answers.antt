use Rattle.ring_model.proofs.WorkedChains.{without_grants_fails, wrapped_amounts_fail, late_chains_fail, gaps_fail, own_calm_fails}
use Rattle.ring_model.proofs.chain_laws.other_chains_fail.Goals as goal

pub returns-clause-numbers : goal.returns-clause-numbers
returns-clause-numbers c = without_grants_fails

pub returns-clause-amounts : goal.returns-clause-amounts
returns-clause-amounts c = wrapped_amounts_fail

pub returns-clause-late : goal.returns-clause-late
returns-clause-late c = late_chains_fail

pub returns-clause-gaps : goal.returns-clause-gaps
returns-clause-gaps c = gaps_fail

pub returns-clause-calm : goal.returns-clause-calm
returns-clause-calm c = own_calm_fails
