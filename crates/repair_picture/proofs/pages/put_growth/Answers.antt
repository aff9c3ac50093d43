use Rattle.std.proofs.Common.{◌++◌}
use Rattle.std.specs.List.{flat_map}
use Rattle.text_lines.proofs.Writing.{writes_err}
use Rattle.repair_picture.specs.Shapes.{shape_text}
use Rattle.repair_picture.specs.Pages.{growth_opening, first_study, growth_frame, growth_ending}
use Rattle.repair_picture.proofs.pages.put_growth.Goals as goal

pub returns-in-Err : goal.returns-in-Err
returns-in-Err g c =
    let shapes = flat_map shape_text c.args.shapes.now in
    writes_err _ _ c.in-Err.fault (growth_opening) (first_study c.args.rows.now ++ (growth_frame ++ (shapes ++ growth_ending))) c.in-Err.ensures
