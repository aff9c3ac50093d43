use Rattle.std.proofs.Common.{◌≤◌, length, arith}
use Rattle.text_lines.proofs.Writing.{pieces_more, pieces_fault, pieces_all}
use Rattle.repair_picture.specs.Shapes.{shape_text}
use Rattle.repair_picture.proofs.shapes.put_shapes.Goals as goal

pub returns-in-Err : goal.returns-in-Err
returns-in-Err g c =
    pieces_fault _ shape_text c.args.shapes.now c.loop-shape.shape-index _ c.loop-shape-test.true _ _ _ c.loop-shape.invariant c.in-Err.fault c.in-Err.ensures

pub loop-shape-preserved : goal.loop-shape-preserved
loop-shape-preserved g c =
    pieces_more _ shape_text c.args.shapes.now c.loop-shape.shape-index _ c.loop-shape-test.true _ _ _ c.loop-shape.invariant c.in-Ok.ensures

pub returns : goal.returns
returns g c =
    let past = c.loop-shape-test.false in
    let end = c.loop-shape.auto.shape-index-end in
    let all' : length c.args.shapes.now ≤ c.loop-shape.shape-index = omega (arith, past, end) in
    pieces_all shape_text c.args.shapes.now c.loop-shape.shape-index _ _ all' c.loop-shape.invariant
