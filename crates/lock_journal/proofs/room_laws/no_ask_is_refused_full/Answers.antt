use Rattle.lock_journal.proofs.NeverFull.{never_full}
use Rattle.lock_journal.proofs.room_laws.no_ask_is_refused_full.Goals as goal

pub returns : goal.returns
returns c = never_full
