use Rattle.name_service.proofs.TakenLines.{names_come_back}
use Rattle.name_service.proofs.laws.names_come_back_of_journals.Goals as goal

pub returns : goal.returns
returns c = names_come_back
