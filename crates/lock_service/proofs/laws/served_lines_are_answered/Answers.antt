use Rattle.lock_service.proofs.ServedLines.{served_lines_are_answered}
use Rattle.lock_service.proofs.laws.served_lines_are_answered.Goals as goal

pub returns : goal.returns
returns c = served_lines_are_answered
