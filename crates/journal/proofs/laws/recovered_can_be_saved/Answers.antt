use Rattle.journal.proofs.Savings.{can_be_saved}
use Rattle.journal.proofs.laws.recovered_can_be_saved.Goals as goal

pub returns : goal.returns
returns c = λ bytes s r. can_be_saved bytes s r
