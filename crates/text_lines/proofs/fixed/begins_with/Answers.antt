use Rattle.std.proofs.Common.{◌≡◌, length, sym, ◌∙◌, arith}
use Rattle.std.proofs.lemmas.Bool.{eqb-true, and_parts}
use Rattle.text_lines.proofs.Steps.{word_done, word_more}
use Rattle.text_lines.proofs.fixed.begins_with.Goals as goal

pub loop-i-preserved : goal.loop-i-preserved
loop-i-preserved c all =
    let parts = and_parts _ _ all in
    word_more c.args.word.now c.args.bytes.now c.loop-i.i c.loop-i-test.true (omega arith) (eqb-true _ _ parts.1) ∙ c.loop-i.invariant parts.0

pub returns : goal.returns
returns c all =
    let e : c.loop-i.i ≡ length c.args.word.now = omega arith in
    let d = word_done c.args.word.now c.args.bytes.now c.loop-i.i c.loop-i-test.false in
    rw e at (sym (c.loop-i.invariant all) ∙ d)
