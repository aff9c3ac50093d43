use Rattle.lock_names.proofs.Sized.{wanted_is_one}
use Rattle.lock_names.proofs.laws.wanted_is_one.Goals as goal

pub returns : goal.returns
returns c = wanted_is_one
