use Rattle.std.proofs.Common.{◌≡◌, ◌∙◌, ◌<◌, ◌≤◌, List, length, get_or, ap, subst, arith}
use Rattle.std.proofs.lemmas.List.{take_all}
use Rattle.saved_history.specs.declared.saved.SavedRing.{SavedRing}
use Rattle.ring_text.proofs.Pieces.{rings_text, rings_more, report_fault, report_end}
use Rattle.ring_text.proofs.reports.report.Goals as goal

pub returns-in-Err-clause-err : goal.returns-in-Err-clause-err
returns-in-Err-clause-err c =
    let rings = c.args.saved.now.rings.items in
    let ring = c.ring-item.result in
    let same = c.deref-ring-items.ensures.value in
    let within : c.loop-place.place < length rings = subst (λ (xs : List SavedRing). c.loop-place.place < length xs) same c.loop-place-test.true in
    let at : ring ≡ get_or rings c.loop-place.place ring = c.ring-item.is ∙ ap (λ (xs : List SavedRing). get_or xs c.loop-place.place ring) same in
    report_fault c.args.saved.now c.loop-place.place ring c.in-Err.fault within at c.in-Err.ensures.full

pub loop-place-preserved : goal.loop-place-preserved
loop-place-preserved c =
    let rings = c.args.saved.now.rings.items in
    let ring = c.ring-item.result in
    let same = c.deref-ring-items.ensures.value in
    let within : c.loop-place.place < length rings = subst (λ (xs : List SavedRing). c.loop-place.place < length xs) same c.loop-place-test.true in
    let at : ring ≡ get_or rings c.loop-place.place ring = c.ring-item.is ∙ ap (λ (xs : List SavedRing). get_or xs c.loop-place.place ring) same in
    rings_more rings c.loop-place.place ring c.loop-place.text.items c.add_ring.new.text.items within at c.loop-place.invariant c.in-Ok.ensures.ok

pub returns-in-Ok-put_total_line-clause-ok : goal.returns-in-Ok-put_total_line-clause-ok
returns-in-Ok-put_total_line-clause-ok c =
    let rings = c.args.saved.now.rings.items in
    let same = c.deref-ring-items.ensures.value in
    let none : length rings ≤ c.loop-place.place = subst (λ (xs : List SavedRing). length xs ≤ c.loop-place.place) same (omega (arith, c.loop-place-test.false)) in
    let all : c.loop-place.text.items ≡ rings_text rings = c.loop-place.invariant ∙ ap rings_text (take_all c.loop-place.place rings none) in
    report_end c.args.saved.now c.args.sums.now c.loop-place.text.items c.put_total_line.new.out.items all c.requires c.in-Ok-put_total_line.ensures
