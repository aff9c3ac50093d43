use Rattle.name_service.proofs.CutNames.{names_kept}
use Rattle.name_service.proofs.CutReplicas.{names_of_runs}
use Rattle.name_service.proofs.laws.names_come_back_of_whatever_is_kept.Goals as goal

pub returns : goal.returns
returns c = record { lines = names_kept; runs = names_of_runs }
