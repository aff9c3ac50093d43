use Rattle.std.proofs.Common.{◌≡◌, ◌+◌, ◌<◌, ◌∙◌, take, refl, sym, ap, arith}
use Rattle.ring_model.specs.Groups.{left_after}
use Rattle.saved_history.specs.Content.{block_of}
use Rattle.ring_check.specs.Legal.{history}
use Rattle.history_steps.specs.Steps.{calm_at}
use Rattle.history_picture.proofs.Shown.{shown_here, shown_before}
use Rattle.history_picture.proofs.columns.calm_on.Goals as goal

pub loop-i-init : goal.loop-i-init
loop-i-init c = record {
  calm = c.requires.calm ∙ ap (calm_at (block_of c.args.ring.now)) (sym c.shown-i.ensures.value);
  few = omega (arith, c.requires.few, c.shown-i.ensures.value);
}

pub returns-after-loop-i-clause-calm : goal.returns-after-loop-i-clause-calm
returns-after-loop-i-clause-calm c =
    let b = block_of c.args.ring.now in
    let end : c.loop-i.i ≡ c.args.place + 1 = omega (arith, c.loop-i-test.false, c.loop-i.auto.i-end, c.shown-i.ensures.few) in
    c.loop-i.invariant.calm ∙ ap (calm_at b) (end ∙ sym (shown_here b (c.args.place + 1) (sym c.left_before.ensures ∙ c.if-left_before-eq0.true)))

pub returns-after-loop-i-clause-few : goal.returns-after-loop-i-clause-few
returns-after-loop-i-clause-few c =
    let b = block_of c.args.ring.now in
    let end : c.loop-i.i ≡ c.args.place + 1 = omega (arith, c.loop-i-test.false, c.loop-i.auto.i-end, c.shown-i.ensures.few) in
    let here = shown_here b (c.args.place + 1) (sym c.left_before.ensures ∙ c.if-left_before-eq0.true) in
    omega (arith, c.loop-i.invariant.few, end, here)

pub returns-else-left_before-eq0-clause-calm : goal.returns-else-left_before-eq0-clause-calm
returns-else-left_before-eq0-clause-calm c =
    let b = block_of c.args.ring.now in
    let inside : 0 < left_after (take (c.args.place + 1) (history b)) = omega (arith, c.left_before.ensures, c.if-left_before-eq0.false) in
    c.requires.calm ∙ ap (calm_at b) (sym (shown_before b c.args.place (c.args.place + 1) refl inside))

pub returns-else-left_before-eq0-clause-few : goal.returns-else-left_before-eq0-clause-few
returns-else-left_before-eq0-clause-few c =
    let b = block_of c.args.ring.now in
    let inside : 0 < left_after (take (c.args.place + 1) (history b)) = omega (arith, c.left_before.ensures, c.if-left_before-eq0.false) in
    omega (arith, c.requires.few, shown_before b c.args.place (c.args.place + 1) refl inside)
