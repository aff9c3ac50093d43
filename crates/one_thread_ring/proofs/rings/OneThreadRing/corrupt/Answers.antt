use Rattle.std.proofs.Common.{rules, ◌<◌, length}
use Rattle.one_thread_ring.proofs.Kept.{called_kept, called_told}
use Rattle.one_thread_ring.proofs.rings.OneThreadRing.corrupt.Goals as goal

pub invariant_of-self-2 : goal.invariant_of-self-2
invariant_of-self-2 g c =
    let within : c.args.seat < length c.self.inside.clients.items = search rules in
    called_kept g.R.Resource.works g.R.Resource.first c.self.inside.book c.corrupt.new.self c.self.inside.clients.items c.args.seat _ c.in_ok-receipt.receipt c.self.invariant c.in_ok-receipt.ensures.book within c.in_ok-receipt.ensures.ok

pub returns-clause-ring : goal.returns-clause-ring
returns-clause-ring g c = (invariant_of-self-2 g c).ring

pub returns-clause-told : goal.returns-clause-told
returns-clause-told g c =
    let within : c.args.seat < length c.self.inside.clients.items = search rules in
    rw (← c.self.view_is) (called_told g.R.Resource.works g.R.Resource.first c.self.inside.book c.corrupt.new.self c.self.inside.clients.items c.args.seat _ c.in_ok-receipt.receipt c.self.invariant c.in_ok-receipt.ensures.book within c.in_ok-receipt.ensures.ok)
