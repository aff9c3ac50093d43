use Rattle.lock_names.proofs.Keeping.{waited_is_kept, waited_is_held}
use Rattle.lock_names.proofs.laws.waited_is_kept.Goals as goal

pub returns-clause-kept : goal.returns-clause-kept
returns-clause-kept c = waited_is_kept

pub returns-clause-held : goal.returns-clause-held
returns-clause-held c = waited_is_held
