use Rattle.ring_check.proofs.Meanings.{legal_means}
use Rattle.ring_check.proofs.laws.legal_as_defined.Goals as goal

pub returns : goal.returns
returns c = legal_means
