use Rattle.name_service.proofs.NamedJournals.{nothing_told_of_names}
use Rattle.name_service.proofs.laws.nothing_told_of_names_is_lost.Goals as goal

pub returns : goal.returns
returns c = nothing_told_of_names
