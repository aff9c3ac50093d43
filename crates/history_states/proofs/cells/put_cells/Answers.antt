use Rattle.text_lines.proofs.Writing.{pieces_fault}
use Rattle.history_states.specs.Cells.{cell_text}
use Rattle.history_states.specs.Walks.{cell_of}
use Rattle.history_states.proofs.cells.put_cells.Goals as goal

pub returns-in-Err : goal.returns-in-Err
returns-in-Err g c = pieces_fault _ (λ cell. cell_text c.args.form (cell_of cell)) c.args.cells.now c.loop-cell.cell-index _ c.loop-cell-test.true _ _ _ c.loop-cell.invariant c.in-Err.fault c.in-Err.ensures
