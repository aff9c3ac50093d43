use Rattle.ring_service.proofs.Known.{known_first}
use Rattle.ring_service.proofs.service.RingService.new.Goals as goal

pub invariant_of-result : goal.invariant_of-result
invariant_of-result c = known_first c.args.rules c.args.served c.is_due-shut.result c.requires.limit c.requires.open c.is_due-shut.ensures
