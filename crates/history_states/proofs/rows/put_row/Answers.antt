use Rattle.std.proofs.Common.{◌++◌}
use Rattle.std.specs.Fmt.{decimal}
use Rattle.std.specs.List.{flat_map}
use Rattle.ring_check.specs.Gauges.{ring_of}
use Rattle.history_states.specs.Cells.{first_text, last_text, cell_text}
use Rattle.history_states.specs.Rows.{row_cells}
use Rattle.text_lines.proofs.Writing.{writes_err}
use Rattle.history_states.proofs.rows.put_row.Goals as goal

pub returns-in-Err : goal.returns-in-Err
returns-in-Err g c = writes_err _ _ c.in-Err.fault (first_text c.args.form ++ decimal c.args.place.index) ((flat_map (cell_text c.args.form) (row_cells c.args.place.events c.args.kind.now c.args.call (ring_of c.args.gauge.now) c.args.place.calm)) ++ last_text c.args.form) c.in-Err.ensures
