use Rattle.name_service.proofs.EqualNames.{equal_name_lines}
use Rattle.name_service.proofs.laws.equal_name_lines_give_equal_answers.Goals as goal

pub returns : goal.returns
returns c = equal_name_lines
