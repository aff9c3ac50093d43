use Rattle.lock_journal.proofs.Restarting.{locks_come_back}
use Rattle.lock_journal.proofs.laws.locks_come_back.Goals as goal

pub returns : goal.returns
returns c = locks_come_back
