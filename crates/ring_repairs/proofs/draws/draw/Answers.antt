use Rattle.std.proofs.Common.{◌≡◌, ℕ, suc, ◌+◌, ◌-◌, sym, ◌∙◌, ap, arith}
use Rattle.ring_repairs.specs.Draws.{draw_within, redraw_limit}
use Rattle.ring_repairs.proofs.Drawing.{draw_is, draw_fair, draw_over, draw_last}
use Rattle.ring_repairs.proofs.draws.draw.Goals as goal

pub loop-init : goal.loop-init
loop-init c = draw_is c.args.below c.args.words.now

pub returns-then-word-rest-clause-drawn : goal.returns-then-word-rest-clause-drawn
returns-then-word-rest-clause-drawn c =
    let left : ℕ = redraw_limit - (c.loop.counter + 1) in
    let one : suc left ≡ redraw_limit - c.loop.counter = omega arith in
    draw_fair left c.args.below c.next_word-word.result c.loop.words c.next_word-word.new.words c.next_word-word.ensures (omega arith)
    ∙ ap (λ (x : ℕ). draw_within x c.args.below c.loop.words) one ∙ c.loop.invariant

pub loop-preserved : goal.loop-preserved
loop-preserved c =
    let left : ℕ = redraw_limit - (c.loop.counter + 1) in
    let one : suc left ≡ redraw_limit - c.loop.counter = omega arith in
    sym (draw_over left c.args.below c.next_word-word.result c.loop.words c.next_word-word.new.words c.next_word-word.ensures (omega arith))
    ∙ ap (λ (x : ℕ). draw_within x c.args.below c.loop.words) one ∙ c.loop.invariant

pub returns-clause-drawn : goal.returns-clause-drawn
returns-clause-drawn c =
    let none : 0 ≡ redraw_limit - c.loop.counter = omega arith in
    draw_last c.args.below c.next_word.result c.loop.words c.next_word.new.words c.next_word.ensures
    ∙ ap (λ (x : ℕ). draw_within x c.args.below c.loop.words) none ∙ c.loop.invariant
