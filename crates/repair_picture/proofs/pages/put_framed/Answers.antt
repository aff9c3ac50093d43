use Rattle.std.proofs.Common.{◌++◌}
use Rattle.std.specs.List.{flat_map}
use Rattle.text_lines.proofs.Writing.{writes_err}
use Rattle.repair_picture.specs.Shapes.{shape_text}
use Rattle.repair_picture.proofs.pages.put_framed.Goals as goal

pub returns-in-Err : goal.returns-in-Err
returns-in-Err g c =
    let shapes = flat_map shape_text c.args.shapes.now in
    writes_err _ _ c.in-Err.fault (c.args.frame.now) (shapes ++ c.args.ending.now) c.in-Err.ensures
