use Rattle.lock_names.proofs.Keeping.{used_are_held, unused_costs_nothing}
use Rattle.lock_names.proofs.laws.unused_costs_nothing.Goals as goal

pub returns-clause-held : goal.returns-clause-held
returns-clause-held c = used_are_held

pub returns-clause-nothing : goal.returns-clause-nothing
returns-clause-nothing c = unused_costs_nothing
