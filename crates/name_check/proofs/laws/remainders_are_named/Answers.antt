use Rattle.name_check.proofs.Remaining.{remainders_are_named}
use Rattle.name_check.proofs.laws.remainders_are_named.Goals as goal

pub returns : goal.returns
returns c = remainders_are_named
