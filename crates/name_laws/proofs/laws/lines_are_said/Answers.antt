use Rattle.name_laws.proofs.Filing.{lines_are_said, files_are_said}
use Rattle.name_laws.proofs.laws.lines_are_said.Goals as goal

pub returns-clause-asked : goal.returns-clause-asked
returns-clause-asked c = lines_are_said

pub returns-clause-files : goal.returns-clause-files
returns-clause-files c = files_are_said
