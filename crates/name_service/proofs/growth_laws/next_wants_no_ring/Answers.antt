use Rattle.name_service.proofs.Wanting.{next_wants_no_ring}
use Rattle.name_service.proofs.growth_laws.next_wants_no_ring.Goals as goal

pub returns : goal.returns
returns c = next_wants_no_ring
