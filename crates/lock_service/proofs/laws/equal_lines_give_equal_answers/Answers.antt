use Rattle.lock_service.proofs.EqualLines.{equal_lines}
use Rattle.lock_service.proofs.EqualSegments.{equal_segments}
use Rattle.lock_service.proofs.laws.equal_lines_give_equal_answers.Goals as goal

pub returns : goal.returns
returns c = record { answers = equal_lines; segments = equal_segments }
