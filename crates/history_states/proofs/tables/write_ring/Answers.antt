use Rattle.saved_history.specs.Content.{block_of}
use Rattle.history_states.specs.Cells.{header}
use Rattle.history_states.specs.Rows.{rows}
use Rattle.history_states.proofs.Parts.{table_then, table_err}
use Rattle.history_states.proofs.tables.write_ring.Goals as goal

pub returns-in-Ok : goal.returns-in-Ok
returns-in-Ok g c = table_then _ _ _ c.put_rows.result (header c.args.form) (rows c.args.form (block_of c.args.ring.now)) c.in-Ok.ensures c.put_rows.ensures

pub returns-in-Err : goal.returns-in-Err
returns-in-Err g c = table_err _ _ c.in-Err.fault (header c.args.form) (rows c.args.form (block_of c.args.ring.now)) c.in-Err.ensures
