use Rattle.ring_model.proofs.Suffixes.{settled_run_means}
use Rattle.ring_model.proofs.meanings.settled_run_meaning.Goals as goal

pub returns : goal.returns
returns g c = settled_run_means
