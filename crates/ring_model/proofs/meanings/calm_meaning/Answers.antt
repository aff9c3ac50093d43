use Rattle.ring_model.proofs.Suffixes.{calm_means}
use Rattle.ring_model.proofs.meanings.calm_meaning.Goals as goal

pub returns : goal.returns
returns c = calm_means
