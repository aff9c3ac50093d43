use Rattle.ring_tests.proofs.Distinct.{two_distinct}
use Rattle.ring_tests.proofs.shared.both.Goals as goal

pub returns : goal.returns
returns g c =
    rw c.push_reserved-2.ensures.items (rw c.push_reserved.ensures.items (rw c.room_for_two-seats.ensures.empty (two_distinct c.args.one c.args.other c.requires)))
