use Rattle.lock_journal.proofs.Longer.{answered_lines_follow}
use Rattle.lock_journal.proofs.laws.answered_lines_follow.Goals as goal

pub returns : goal.returns
returns c = answered_lines_follow
