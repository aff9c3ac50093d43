use Rattle.std.proofs.Common.{◌≡◌, map, length, ◌∙◌, arith}
use Rattle.std.proofs.lemmas.List.{length-map}
use Rattle.ring_farm.proofs.Pairing.{done_of, ok_both}
use Rattle.ring_farm.proofs.threads.fn.run_in_scope.scope.Goals as goal

pub join_all-joined-requires-clause-room : goal.join_all-joined-requires-clause-room
join_all-joined-requires-clause-room g c κs within =
    let h = c.spawn_all-handles.ensures.room in
    let a = c.requires.0.0 in let b = c.requires.2 in omega arith

pub returns : goal.returns
returns g c =
    let all = c.spawn_all-handles.ensures.all c.if-not-all.false in
    let hs = c.spawn_all-handles.result.0.items in
    let ps = c.captures.plans.now.items in
    let n : length hs ≡ length ps = omega arith in
    let promised = c.spawn_all-handles.ensures.promises c.if-not-all.false in
    ok_both _ _ _ c.join_all-joined.result
    (λ v count kept. (count ∙ all, done_of c.captures.driven.now.number ps (map (λ h. h.promise) hs) v.items (length-map hs (λ h. h.promise) ∙ n) promised kept))
    c.join_all-joined.ensures.count c.join_all-joined.ensures.kept
