use Rattle.ring_repairs.specs.Draws.{word}
use Rattle.ring_repairs.proofs.draws.next_word.Goals as goal

pub returns : goal.returns
unfolding word
returns c = c.next_word.ensures
