use Rattle.std.proofs.Common.{◌≡◌, length, sym, ◌∙◌, arith}
use Rattle.std.proofs.lemmas.List.{take_rest}
use Rattle.text_lines.proofs.Steps.{word_more, word_other, word_short, word_done}
use Rattle.text_lines.proofs.fixed.after_word.Goals as goal

pub returns-then-bytes-i : goal.returns-then-bytes-i
returns-then-bytes-i c = sym c.loop-i.invariant.0 ∙ word_short c.args.word.now c.args.bytes.now c.loop-i.i c.loop-i-test.true c.if-bytes-i.true

pub returns-then-bytes-i-2 : goal.returns-then-bytes-i-2
returns-then-bytes-i-2 c = sym c.loop-i.invariant.0 ∙ word_other c.args.word.now c.args.bytes.now c.loop-i.i c.loop-i-test.true c.if-bytes-i.false c.if-bytes-i-2.true

pub loop-i-preserved : goal.loop-i-preserved
loop-i-preserved c = (word_more c.args.word.now c.args.bytes.now c.loop-i.i c.loop-i-test.true c.if-bytes-i.false c.if-bytes-i-2.false ∙ c.loop-i.invariant.0, omega arith)

pub returns : goal.returns
returns c =
    let e : c.loop-i.i ≡ length c.args.word.now = omega arith in
    let d = word_done c.args.word.now c.args.bytes.now c.loop-i.i c.loop-i-test.false in
    rw take_rest (rw e at (sym c.loop-i.invariant.0 ∙ d))
