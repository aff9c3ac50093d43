use Rattle.std.proofs.Common.{◌≡◌, ◌<◌, length, List, get_or, ap, ◌∙◌, subst}
use Rattle.saved_history.specs.declared.saved.SavedRing.{SavedRing}
use Rattle.ring_service.specs.Standings.{standing_of}
use Rattle.ring_service.proofs.Resuming.{segments_more, start_fault}
use Rattle.ring_service.proofs.served.Served.from_segments.Goals as goal

pub returns-in-Err-clause-err : goal.returns-in-Err-clause-err
returns-in-Err-clause-err c =
    let rings = c.args.saved.now.rings.items in
    let ring = c.ring-item.result in
    let same = c.deref-ring-items.ensures.value in
    let within : c.loop-number.number < length rings = subst (λ (xs : List SavedRing). c.loop-number.number < length xs) same c.loop-number-test.true in
    let at : ring ≡ get_or rings c.loop-number.number ring = c.ring-item.is ∙ ap (λ (xs : List SavedRing). get_or xs c.loop-number.number ring) same in
    start_fault rings c.loop-number.number ring c.in-Err.error within at c.in-Err.ensures.full

pub loop-number-preserved : goal.loop-number-preserved
loop-number-preserved c =
    let rings = c.args.saved.now.rings.items in
    let ring = c.ring-item.result in
    let same = c.deref-ring-items.ensures.value in
    let within : c.loop-number.number < length rings = subst (λ (xs : List SavedRing). c.loop-number.number < length xs) same c.loop-number-test.true in
    let at : ring ≡ get_or rings c.loop-number.number ring = c.ring-item.is ∙ ap (λ (xs : List SavedRing). get_or xs c.loop-number.number ring) same in
    segments_more c.args.bases.now c.loop-number.served c.add.new.self rings c.loop-number.number c.base_at-base.result (standing_of c.in-Ok.ring) ring within c.requires.many at (c.base_at-base.ensures c.base_at-base.result) c.loop-number.invariant c.in-Ok.ensures.ok c.in-Ok-add.ensures.ok
