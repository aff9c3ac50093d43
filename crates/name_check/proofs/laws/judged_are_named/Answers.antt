use Rattle.name_check.proofs.Holding.{judged_are_named}
use Rattle.name_check.proofs.laws.judged_are_named.Goals as goal

pub returns : goal.returns
returns c = judged_are_named
