use Rattle.std.proofs.Common.{rules, ◌≡◌, ◌∷◌, [], length, length-append, ◌∙◌, arith}
use Rattle.std.proofs.lemmas.Iterator.Consumers.{YieldsList-end}
use Rattle.std.proofs.lemmas.Iterator.Adapters.{YieldsList-from_vec}
use Rattle.ring_farm.specs.Promises.{DidAsPromised}
use Rattle.ring_farm.proofs.Pairing.{Pairs-map-push, map_same}
use Rattle.ring_farm.proofs.threads.join_all.Goals as goal

pub loop-handle-preserved : goal.loop-handle-preserved
loop-handle-preserved g c =
    let i = c.loop-handle.invariant in let p = c.push_reserved.ensures in (
      (let n = p.len in let m = i.0 in omega (arith, length-append c.loop-handle.yielded (c.in-Some.handle ∷ []))),
      (let n = p.capacity in let m = i.1 in omega arith),
      (λ none.
          let t = c.first_fault-fault.ensures.none none in
          let k = c.join-seat.ensures in
          let i0 = i.0 in
          let same : length c.loop-handle.yielded ≡ length c.loop-handle.seats.items = omega arith in
          rw p.items (Pairs-map-push (λ h. h.promise) DidAsPromised c.loop-handle.yielded c.loop-handle.seats.items c.in-Some.handle c.join-seat.result.seat same (i.2 t.0) (k.0, k.1 t.1))),
    )

pub returns-in-None-fault-clause-kept : goal.returns-in-None-fault-clause-kept
returns-in-None-fault-clause-kept g c =
    let e = YieldsList-end (YieldsList-from_vec {s = c.into_iter-handle-iterator.result} c.args.handles.items (search rules) (search rules)) c.loop-handle.yielded c.loop-handle.handle-iterator c.loop-handle.yielded_by c.next.result c.next.new.self c.in-None.is c.next.ensures.steps in
    let k = c.loop-handle.invariant.2 c.in-None-fault.is in
    let same = map_same c.loop-handle.yielded ∙ e.0 in
    rw (← same) k
