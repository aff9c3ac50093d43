use Rattle.std.proofs.Common.{List, map, subst, sym}
use Rattle.std.specs.List.{AllByRecursion}
use Rattle.std.proofs.lemmas.List.{take_all}
use Rattle.endless_ring.specs.Endless.{EndlessView, IsEndless}
use Rattle.ring_service.specs.Standings.{standing_of}
use Rattle.ring_service.specs.Segments.{AreNext, HasRoom}
use Rattle.ring_service.proofs.Continuing.{next_is, next_more, next_room, room_more, full_at}
use Rattle.ring_service.proofs.segments.next_rings.Goals as goal

pub loop-ring-preserved : goal.loop-ring-preserved
loop-ring-preserved c =
    let right = subst (λ (e : EndlessView). IsEndless e) (sym c.ring-item.is) (c.requires c.loop-ring.ring-index c.ring-item.result c.loop-ring-test.true) in
    let inv = c.loop-ring.invariant in (
      next_more c.args.rings.now c.loop-ring.ring-index c.ring-item.result c.loop-ring.next c.add.new.self (standing_of c.in-Ok.ring) c.loop-ring-test.true c.ring-item.is inv.0 (next_is c.ring-item.result c.in-Ok.ring right c.in-Ok.ensures.ok) c.in-Ok-add.ensures.ok,
      room_more c.args.rings.now c.loop-ring.ring-index c.ring-item.result c.loop-ring-test.true c.ring-item.is inv.1 (next_room c.ring-item.result c.in-Ok.ring c.in-Ok.ensures.ok c.in-Ok.ensures.is),
    )

pub returns-in-Err-clause-full : goal.returns-in-Err-clause-full
returns-in-Err-clause-full c = λ e. full_at c.args.rings.now c.loop-ring.ring-index c.ring-item.result c.loop-ring-test.true c.ring-item.is (c.in-Err.ensures.full e)

pub returns-clause-ok : goal.returns-clause-ok
returns-clause-ok c = subst (λ (xs : List EndlessView). AreNext (map standing_of xs) c.loop-ring.next) (take_all c.loop-ring.ring-index c.args.rings.now c.loop-ring-test.false) c.loop-ring.invariant.0

pub returns-clause-room : goal.returns-clause-room
returns-clause-room c = subst (λ (xs : List EndlessView). AllByRecursion HasRoom (map standing_of xs)) (take_all c.loop-ring.ring-index c.args.rings.now c.loop-ring-test.false) c.loop-ring.invariant.1
