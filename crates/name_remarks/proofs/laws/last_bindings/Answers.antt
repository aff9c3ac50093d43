use Rattle.name_remarks.proofs.Taken.{last_bindings}
use Rattle.name_remarks.proofs.laws.last_bindings.Goals as goal

pub returns : goal.returns
returns c = last_bindings
