use Rattle.lock_names.proofs.LeftNames.{leaves_are_settled}
use Rattle.lock_names.proofs.laws.leaves_are_settled.Goals as goal

pub returns : goal.returns
returns c = leaves_are_settled
