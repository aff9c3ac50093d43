use Rattle.ring_model.proofs.LongRuns.{long_calm_settles}
use Rattle.ring_model.proofs.repair_laws.long_calm.Goals as goal

pub returns : goal.returns
returns g c = long_calm_settles
