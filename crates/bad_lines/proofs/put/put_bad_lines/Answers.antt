use Rattle.std.proofs.Common.{◌≤◌, length, arith}
use Rattle.text_lines.proofs.Writing.{pieces_more, pieces_fault, pieces_all}
use Rattle.bad_lines.specs.BadLineTexts.{line_text}
use Rattle.bad_lines.proofs.put.put_bad_lines.Goals as goal

pub returns-in-Err : goal.returns-in-Err
returns-in-Err g c = pieces_fault _ line_text c.args.lines.now c.loop-line.line-index _ c.loop-line-test.true _ _ _ c.loop-line.invariant c.in-Err.fault c.in-Err.ensures

pub loop-line-preserved : goal.loop-line-preserved
loop-line-preserved g c = pieces_more _ line_text c.args.lines.now c.loop-line.line-index _ c.loop-line-test.true _ _ _ c.loop-line.invariant c.in-Ok.ensures

pub returns : goal.returns
returns g c =
    let past = c.loop-line-test.false in
    let end = c.loop-line.auto.line-index-end in
    let all : length c.args.lines.now ≤ c.loop-line.line-index = omega (arith, past, end) in
    pieces_all line_text c.args.lines.now c.loop-line.line-index _ _ all c.loop-line.invariant
