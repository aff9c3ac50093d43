use Rattle.journal.proofs.Cutting.{prefixes_recovered}
use Rattle.journal.proofs.laws.prefixes_are_recovered.Goals as goal

pub returns : goal.returns
returns c = λ j bytes more answer right cut a. prefixes_recovered j bytes more answer right cut a
