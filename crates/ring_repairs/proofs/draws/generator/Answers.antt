use Rattle.ring_repairs.specs.Draws.{generator}
use Rattle.ring_repairs.proofs.draws.generator.Goals as goal

pub returns : goal.returns
unfolding generator
returns c = c.new.ensures
