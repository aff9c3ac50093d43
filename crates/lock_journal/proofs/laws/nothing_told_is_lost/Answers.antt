use Rattle.lock_journal.proofs.Keeping.{nothing_told_is_lost}
use Rattle.lock_journal.proofs.laws.nothing_told_is_lost.Goals as goal

pub returns : goal.returns
returns c = nothing_told_is_lost
