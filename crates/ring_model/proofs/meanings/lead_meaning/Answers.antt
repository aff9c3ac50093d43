use Rattle.ring_model.proofs.Meaning.{lead_means}
use Rattle.ring_model.proofs.meanings.lead_meaning.Goals as goal

pub returns : goal.returns
returns c = lead_means
