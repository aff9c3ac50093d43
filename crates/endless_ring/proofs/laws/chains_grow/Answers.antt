use Rattle.endless_ring.proofs.Segments.{chains_grow}
use Rattle.endless_ring.proofs.laws.chains_grow.Goals as goal

pub returns : goal.returns
returns c = chains_grow
