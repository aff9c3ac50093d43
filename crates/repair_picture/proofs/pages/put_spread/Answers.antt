use Rattle.std.proofs.Common.{◌++◌}
use Rattle.std.specs.List.{flat_map}
use Rattle.text_lines.proofs.Writing.{writes_err, writes_then}
use Rattle.repair_texts.specs.Lines.{figures_text}
use Rattle.repair_picture.specs.Shapes.{shape_text}
use Rattle.repair_picture.specs.Pages.{spread_opening, spread_frame, spread_ending}
use Rattle.repair_picture.proofs.pages.put_spread.Goals as goal

pub returns-in-Ok : goal.returns-in-Ok
returns-in-Ok g c =
    let shapes = flat_map shape_text c.args.shapes.now in
    writes_then _ _ _ c.put_spread_body.result (spread_opening) (figures_text c.args.row.now.head c.args.row.now.figures ++ (spread_frame ++ (shapes ++ spread_ending))) c.in-Ok.ensures c.put_spread_body.ensures

pub returns-in-Err : goal.returns-in-Err
returns-in-Err g c =
    let shapes = flat_map shape_text c.args.shapes.now in
    writes_err _ _ c.in-Err.fault (spread_opening) (figures_text c.args.row.now.head c.args.row.now.figures ++ (spread_frame ++ (shapes ++ spread_ending))) c.in-Err.ensures
