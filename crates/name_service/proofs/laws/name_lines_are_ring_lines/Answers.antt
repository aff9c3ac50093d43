use Rattle.name_service.proofs.RingLined.{name_lines_are_ring_lines}
use Rattle.name_service.proofs.laws.name_lines_are_ring_lines.Goals as goal

pub returns : goal.returns
returns c = name_lines_are_ring_lines
