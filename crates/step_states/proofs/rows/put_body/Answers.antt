use Rattle.std.specs.Prelude.{codes}
use Rattle.std.specs.List.{flat_map}
use Rattle.text_lines.proofs.Writing.{writes_err}
use Rattle.history_states.specs.Cells.{cell_text}
use Rattle.history_states.specs.declared.form.Form.TheVariants.{Words}
use Rattle.step_states.specs.Rows.{row_cells}
use Rattle.step_states.proofs.rows.put_body.Goals as goal

pub returns-in-Err : goal.returns-in-Err
returns-in-Err g c = writes_err _ _ c.in-Err.fault (flat_map (cell_text Words) (row_cells c.args.place.last c.args.ring.now c.args.place.grants)) (codes "\n") c.in-Err.ensures
