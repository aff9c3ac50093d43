use Rattle.std.proofs.Common.{map}
use Rattle.std.specs.List.{flat_map}
use Rattle.saved_history.specs.Content.{block_of}
use Rattle.history_states.specs.Cells.{header}
use Rattle.history_states.specs.Rows.{rows}
use Rattle.history_states.proofs.Parts.{table_then, table_err}
use Rattle.history_states.proofs.tables.write_states.Goals as goal

pub returns-in-Ok : goal.returns-in-Ok
returns-in-Ok g c = table_then _ _ _ c.put_rings.result (header c.args.form) (flat_map (rows c.args.form) (map block_of c.args.rings.now)) c.in-Ok.ensures c.put_rings.ensures

pub returns-in-Err : goal.returns-in-Err
returns-in-Err g c = table_err _ _ c.in-Err.fault (header c.args.form) (flat_map (rows c.args.form) (map block_of c.args.rings.now)) c.in-Err.ensures
