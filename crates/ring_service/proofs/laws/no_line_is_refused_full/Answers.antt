use Rattle.ring_service.proofs.Room.{never_full}
use Rattle.ring_service.proofs.laws.no_line_is_refused_full.Goals as goal

pub returns : goal.returns
returns c = never_full
