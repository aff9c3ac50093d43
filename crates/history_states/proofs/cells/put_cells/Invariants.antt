use Rattle.std.proofs.Common.{take}
use Rattle.std.specs.List.{flat_map}
use Rattle.std.specs.Io.KnownBytes.{Appends}
use Rattle.history_states.specs.Cells.{cell_text}
use Rattle.history_states.specs.Walks.{cell_of}
use Rattle.history_states.proofs.cells.put_cells.Given as goal

abbrev pub invariant-loop-cell : goal.invariant-loop-cell
invariant-loop-cell g l = Appends (g.W.Write.contents l.initial.out) (g.W.Write.contents l.out) (flat_map (λ cell. cell_text l.form (cell_of cell)) (take l.cell-index l.cells))
