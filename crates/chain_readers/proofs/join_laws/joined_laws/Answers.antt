use Rattle.chain_readers.proofs.RingCounts.{joined_have_rings}
use Rattle.chain_readers.proofs.Whole.{joined_is_legal}
use Rattle.chain_readers.proofs.RingHistories.{joined_is_of_chains}
use Rattle.chain_readers.proofs.join_laws.joined_laws.Goals as goal

pub returns : goal.returns
returns c = record { rings = joined_have_rings; legal = joined_is_legal; histories = joined_is_of_chains }
