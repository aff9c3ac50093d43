use Rattle.ring_tests.proofs.Distinct.{one_distinct}
use Rattle.ring_tests.proofs.shared.alone.Goals as goal

pub returns : goal.returns
returns g c = rw c.in-Ok.ensures.items (one_distinct c.args.one)
