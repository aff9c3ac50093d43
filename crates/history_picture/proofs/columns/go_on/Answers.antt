use Rattle.std.proofs.Common.{◌≡◌, ◌+◌, ◌<◌, ◌∙◌, take, refl, sym, ap, arith}
use Rattle.ring_model.specs.Groups.{left_after}
use Rattle.saved_history.specs.Content.{block_of}
use Rattle.ring_check.specs.Legal.{history}
use Rattle.history_steps.specs.Steps.{ring_at}
use Rattle.history_picture.proofs.Shown.{shown_here, shown_before}
use Rattle.history_steps.proofs.Places.{named}
use Rattle.history_picture.proofs.columns.go_on.Goals as goal

pub loop-i-init : goal.loop-i-init
loop-i-init c = named c.args.ring.now _ _ c.args.gauge.now (ap (ring_at (block_of c.args.ring.now)) (sym c.shown-i.ensures.value)) c.requires.ring

pub returns-after-loop-i : goal.returns-after-loop-i
returns-after-loop-i c =
    let b = block_of c.args.ring.now in
    let end : c.loop-i.i ≡ c.args.place + 1 = omega (arith, c.loop-i-test.false, c.loop-i.auto.i-end, c.shown-i.ensures.few) in
    named c.args.ring.now _ _ c.loop-i.gauge (ap (ring_at b) (end ∙ sym (shown_here b (c.args.place + 1) (sym c.left_before.ensures ∙ c.if-left_before-eq0.true)))) c.loop-i.invariant

pub returns-else-left_before-eq0 : goal.returns-else-left_before-eq0
returns-else-left_before-eq0 c =
    let b = block_of c.args.ring.now in
    let inside : 0 < left_after (take (c.args.place + 1) (history b)) = omega (arith, c.left_before.ensures, c.if-left_before-eq0.false) in
    named c.args.ring.now _ _ c.args.gauge.now (ap (ring_at b) (sym (shown_before b c.args.place (c.args.place + 1) refl inside))) c.requires.ring
