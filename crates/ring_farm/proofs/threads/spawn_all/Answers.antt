use Rattle.std.proofs.Common.{rules, ◌≡◌, ◌<◌, refl, ◌∷◌, [], length, length-append, slice_get, ap, ◌∙◌, sym, arith}
use Rattle.std.proofs.lemmas.Iterator.Consumers.{YieldsList-turn}
use Rattle.std.proofs.lemmas.Iterator.Adapters.{YieldsList-from_vec}
use Rattle.std.proofs.lemmas.Option.{slice_get_read, get_or_from_slice_get}
use Rattle.ring_shared.specs.Client.{Client}
use Rattle.ring_farm.specs.Promises.{IsPromised}
use Rattle.ring_farm.proofs.Pairing.{Pairs-map-next}
use Rattle.ring_farm.proofs.threads.spawn_all.Goals.{in-Some-spawn_one, in-None-spawn_one}
use Rattle.ring_farm.proofs.threads.spawn_all.Goals as goal

pub loop-seat-preserved : goal.loop-seat-preserved
loop-seat-preserved g c =
    let i = c.loop-seat.invariant in
    let one = length-append c.loop-seat.yielded (c.in-Some.seat ∷ []) in
    let t = YieldsList-turn (YieldsList-from_vec {s = c.into_iter-seat-iterator.result} c.args.seats.items (search rules) (search rules)) c.loop-seat.yielded c.loop-seat.seat-iterator c.loop-seat.yielded_by c.next.result c.next.new.self c.in-Some.seat c.in-Some.is c.next.ensures.steps in
    elim c.match-spawn_one.branch [
      | in-Some-spawn_one w ↦
          (let p = w.push_reserved.ensures in
          let cap = p.capacity in let len = p.len in let i1 = i.1 in let i2 = i.2 in let i0 = i.0 in
          rw (w.handles-is, w.all-is) (
            omega arith,
            omega arith,
            omega arith,
            (λ all.
                let k = i.3 all in
                let k0 = k.0 in
                let m = w.in-Some-spawn_one.ensures in
                let n : length c.loop-seat.handles.items ≡ c.loop-seat.i = omega arith in
                let count = c.requires.fresh.count in
                let within : c.loop-seat.i < length c.args.plans.now.items = (let t0 = t.0 in omega arith) in
                let at = ap (slice_get c.args.plans.now.items) n ∙ slice_get_read c.args.plans.now.items (length c.args.plans.now.items) c.loop-seat.i c.index-plan.result.now refl within c.index-plan.ensures in
                let below : length c.loop-seat.yielded < length c.args.plans.now.items = omega arith in
                let this = c.requires.fresh.each (length c.loop-seat.yielded) below in
                let seat = t.1 ∙ get_or_from_slice_get c.args.seats.items (length c.loop-seat.yielded) _ c.in-Some.seat this.1 in
                let number = ap (λ (s : Client). s.number) seat ∙ ap (λ (s : Client). s.number) this.2 in (
                  omega arith,
                  rw p.items (Pairs-map-next (λ h. h.promise) (IsPromised c.args.driven.now.number) c.args.plans.now.items c.loop-seat.handles.items c.index-plan.result.now w.in-Some-spawn_one.handle at k.1
                      (m.0, m.1 ∙ (number ∙ (sym i0 ∙ sym n)), m.2)),
                )),
          ))
      | in-None-spawn_one w ↦
          (let i1 = i.1 in let i2 = i.2 in let i0 = i.0 in
          rw (w.handles-is, w.all-is) (omega arith, omega arith, omega arith, λ none. cc))
    ]

pub returns-clause-promises : goal.returns-clause-promises
returns-clause-promises g c = λ t. (c.loop-seat.invariant.3 t).1

pub spawn_one-requires-clause-new : goal.spawn_one-requires-clause-new
spawn_one-requires-clause-new g c κs within =
    let t = YieldsList-turn (YieldsList-from_vec {s = c.into_iter-seat-iterator.result} c.args.seats.items (search rules) (search rules)) c.loop-seat.yielded c.loop-seat.seat-iterator c.loop-seat.yielded_by c.next.result c.next.new.self c.in-Some.seat c.in-Some.is c.next.ensures.steps in
    let count = c.requires.fresh.count in
    let below : length c.loop-seat.yielded < length c.args.plans.now.items = (let t0 = t.0 in omega arith) in
    let this = c.requires.fresh.each (length c.loop-seat.yielded) below in
    let seat = t.1 ∙ get_or_from_slice_get c.args.seats.items (length c.loop-seat.yielded) _ c.in-Some.seat this.1 in
    ap (λ (s : Client). s.log) seat ∙ ap (λ (s : Client). s.log) this.2
