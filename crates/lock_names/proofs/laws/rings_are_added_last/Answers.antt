use Rattle.lock_names.proofs.Keeping.{more_is_taken_last}
use Rattle.lock_names.proofs.laws.rings_are_added_last.Goals as goal

pub returns : goal.returns
returns c = more_is_taken_last
