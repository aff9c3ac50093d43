use Rattle.std.proofs.Common.{◌≡◌, ◌<◌, ◌≤◌, length, ap, arith}
use Rattle.std.proofs.lemmas.List.{length-map}
use Rattle.ring_model.specs.Limits.{seat_limit}
use Rattle.one_thread_ring.specs.Clients.{ClientView, told_of, told_all}
use Rattle.one_thread_ring.specs.Rings.{RingView}
use Rattle.one_thread_ring.proofs.Kept.{called_kept, called_told}
use Rattle.one_thread_ring.proofs.rings.OneThreadRing.grant.Goals as goal

pub grant-requires-clause-seat : goal.grant-requires-clause-seat
grant-requires-clause-seat g c =
    let few : length (told_all c.self.inside.book.history c.self.inside.clients.items) ≤ seat_limit = c.self.invariant.ring.few in
    let many : length (told_all c.self.inside.book.history c.self.inside.clients.items) ≡ length c.args.self.now.clients = ap (λ (d : RingView _). length d.clients) c.self.view_is in
    let seat = c.requires.seat in
    omega (arith, few, many, seat)

pub invariant_of-self : goal.invariant_of-self
invariant_of-self g c =
    let many : length (told_all c.self.inside.book.history c.self.inside.clients.items) ≡ length c.args.self.now.clients = ap (λ (d : RingView _). length d.clients) c.self.view_is in
    let told : length (told_all c.self.inside.book.history c.self.inside.clients.items) ≡ length c.self.inside.clients.items = length-map c.self.inside.clients.items (told_of c.self.inside.book.history) in
    let seat = c.requires.seat in
    let within : c.args.seat < length c.self.inside.clients.items = omega (arith, many, told, seat) in
    called_kept g.R.Resource.works g.R.Resource.first c.self.inside.book c.grant.new.self c.self.inside.clients.items c.args.seat _ c.grant.result c.self.invariant c.grant.ensures.book within c.grant.ensures.recorded

pub returns-clause-ring : goal.returns-clause-ring
returns-clause-ring g c = (invariant_of-self g c).ring

pub returns-clause-told : goal.returns-clause-told
returns-clause-told g c =
    let many : length (told_all c.self.inside.book.history c.self.inside.clients.items) ≡ length c.args.self.now.clients = ap (λ (d : RingView _). length d.clients) c.self.view_is in
    let told : length (told_all c.self.inside.book.history c.self.inside.clients.items) ≡ length c.self.inside.clients.items = length-map c.self.inside.clients.items (told_of c.self.inside.book.history) in
    let seat = c.requires.seat in
    let within : c.args.seat < length c.self.inside.clients.items = omega (arith, many, told, seat) in
    rw (← c.self.view_is) (called_told g.R.Resource.works g.R.Resource.first c.self.inside.book c.grant.new.self c.self.inside.clients.items c.args.seat _ c.grant.result c.self.invariant c.grant.ensures.book within c.grant.ensures.recorded)
