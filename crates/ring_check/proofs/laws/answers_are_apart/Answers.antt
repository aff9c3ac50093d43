use Rattle.ring_check.proofs.Scans.{at_most_one}
use Rattle.ring_check.proofs.laws.answers_are_apart.Goals as goal

pub returns : goal.returns
returns c = at_most_one
