use Rattle.journal.proofs.Cutting.{one_recovered}
use Rattle.journal.proofs.laws.one_is_recovered.Goals as goal

pub returns : goal.returns
returns c = λ bytes s t r q. one_recovered bytes s t r q
