use Rattle.std.proofs.Common.{◌≡◌, ◌-◌, ◌+◌, ◌<◌, ◌∙◌, take, sym, ap, arith}
use Rattle.ring_model.specs.Groups.{left_after}
use Rattle.saved_history.specs.Content.{block_of}
use Rattle.ring_check.specs.Legal.{history}
use Rattle.history_picture.specs.Picture.{shown}
use Rattle.history_picture.proofs.Shown.{shown_here, shown_before}
use Rattle.history_picture.proofs.groups.shown.Goals as goal

pub returns-then-left_before-eq0-clause-value : goal.returns-then-left_before-eq0-clause-value
returns-then-left_before-eq0-clause-value c =
    sym (shown_here (block_of c.args.ring.now) (c.args.place - c.loop-turn.turn) (sym c.left_before.ensures ∙ c.if-left_before-eq0.true)) ∙ c.loop-turn.invariant.same

pub loop-turn-preserved : goal.loop-turn-preserved
loop-turn-preserved c =
    let b = block_of c.args.ring.now in
    let at = c.args.place - c.loop-turn.turn in
    let less : at ≡ c.args.place - (c.loop-turn.turn + 1) + 1 = omega (arith, c.loop-turn-test.true) in
    let inside : 0 < left_after (take at (history b)) = omega (arith, c.left_before.ensures, c.if-left_before-eq0.false) in
    record { same = sym (shown_before b (c.args.place - (c.loop-turn.turn + 1)) at less inside) ∙ c.loop-turn.invariant.same }

pub returns-clause-value : goal.returns-clause-value
returns-clause-value c =
    let none : c.args.place - c.loop-turn.turn ≡ 0 = omega (arith, c.loop-turn-test.false) in
    ap (shown (block_of c.args.ring.now)) (sym none) ∙ c.loop-turn.invariant.same
