use Rattle.name_service.proofs.NamedJournals.{served_name_lines, answered_name_lines}
use Rattle.name_service.proofs.laws.answered_name_lines_follow.Goals as goal

pub returns : goal.returns
returns c = record { served = served_name_lines; follow = answered_name_lines }
