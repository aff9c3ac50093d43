use Rattle.ring_model.proofs.Meaning.{front_means}
use Rattle.ring_model.proofs.meanings.prefix_meaning.Goals as goal

pub returns : goal.returns
returns c = front_means
