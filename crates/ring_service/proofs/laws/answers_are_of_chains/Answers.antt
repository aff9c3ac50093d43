use Rattle.ring_service.proofs.Continuing.{chains_grow, answers_are_of_chains, blocks_are_of_chains, surveys_are_of_chains}
use Rattle.ring_service.proofs.laws.answers_are_of_chains.Goals as goal

pub returns : goal.returns
returns c = record { grow = chains_grow; calls = answers_are_of_chains; blocks = blocks_are_of_chains; surveys = surveys_are_of_chains }
