use Rattle.ring_service.proofs.EqualLines.{equal_lines}
use Rattle.ring_service.proofs.laws.equal_lines_give_equal_answers.Goals as goal

pub returns : goal.returns
returns c = equal_lines
