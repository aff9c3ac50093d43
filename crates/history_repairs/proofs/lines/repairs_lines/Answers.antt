use Rattle.std.proofs.Common.{◌≡◌, ◌<◌, ◌≤◌, ◌∙◌, List, length, get_or, ap, subst, arith}
use Rattle.saved_history.specs.declared.saved.SavedRing.{SavedRing}
use Rattle.history_repairs.proofs.Texts.{rings_more, rings_all, ring_sized}
use Rattle.history_repairs.proofs.lines.repairs_lines.Goals as goal

pub add_ring-requires-clause-some : goal.add_ring-requires-clause-some
add_ring-requires-clause-some c =
    let rings = c.args.saved.now.rings.items in
    let ring = c.ring-item.result in
    let i = c.loop-ring.ring-index in
    let same = c.deref-ring-items.ensures.value in
    let within : i < length rings = subst (λ (xs : List SavedRing). i < length xs) same c.loop-ring-test.true in
    let at : ring ≡ get_or rings i ring = c.ring-item.is ∙ ap (λ (xs : List SavedRing). get_or xs i ring) same in
    (ring_sized c.args.saved.now i ring c.requires within at).some

pub add_ring-requires-clause-few : goal.add_ring-requires-clause-few
add_ring-requires-clause-few c =
    let rings = c.args.saved.now.rings.items in
    let ring = c.ring-item.result in
    let i = c.loop-ring.ring-index in
    let same = c.deref-ring-items.ensures.value in
    let within : i < length rings = subst (λ (xs : List SavedRing). i < length xs) same c.loop-ring-test.true in
    let at : ring ≡ get_or rings i ring = c.ring-item.is ∙ ap (λ (xs : List SavedRing). get_or xs i ring) same in
    (ring_sized c.args.saved.now i ring c.requires within at).few

pub loop-ring-preserved : goal.loop-ring-preserved
loop-ring-preserved c =
    let rings = c.args.saved.now.rings.items in
    let ring = c.ring-item.result in
    let i = c.loop-ring.ring-index in
    let same = c.deref-ring-items.ensures.value in
    let within : i < length rings = subst (λ (xs : List SavedRing). i < length xs) same c.loop-ring-test.true in
    let at : ring ≡ get_or rings i ring = c.ring-item.is ∙ ap (λ (xs : List SavedRing). get_or xs i ring) same in
    rings_more rings i ring c.loop-ring.text.items c.add_ring.new.text.items within at c.loop-ring.invariant c.in_ok-add_ring.ensures

pub returns : goal.returns
returns c =
    let rings = c.args.saved.now.rings.items in
    let i = c.loop-ring.ring-index in
    let past : length rings ≤ i = subst (λ (xs : List SavedRing). length xs ≤ i) c.deref-ring-items.ensures.value c.loop-ring-test.false in
    rings_all c.args.saved.now i c.loop-ring.text.items past c.loop-ring.invariant
