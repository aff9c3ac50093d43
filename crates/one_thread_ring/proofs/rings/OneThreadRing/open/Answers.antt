use Rattle.std.proofs.Common.{rules, ◌≤◌}
use Rattle.ring_model.specs.Limits.{seat_limit}
use Rattle.one_thread_ring.proofs.Kept.{opened_kept, new_fresh}
use Rattle.one_thread_ring.proofs.rings.OneThreadRing.open.Goals as goal

pub invariant_of-result : goal.invariant_of-result
invariant_of-result g c =
    let most : c.args.seats ≤ seat_limit = search rules in
    opened_kept g.R.Resource.works g.R.Resource.first c.in_ok-state.state c.in-Ok.book c.in_ok-clients.clients.items c.args.seats most c.in-Ok.ensures.book (search rules) c.in_ok-clients.ensures

pub returns-in-Ok-clause-ring : goal.returns-in-Ok-clause-ring
returns-in-Ok-clause-ring g c = (invariant_of-result g c).ring

pub returns-in-Ok-clause-fresh : goal.returns-in-Ok-clause-fresh
returns-in-Ok-clause-fresh g c = (search rules, new_fresh c.args.seats c.in-Ok.book.history c.in_ok-clients.clients.items (search rules) c.in_ok-clients.ensures)
