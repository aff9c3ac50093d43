-- The cells as the writers have them (this project's own; no public clause names it).
use Rattle.history_states.specs.Cells.{Number, Word, Numbers}
use Rattle.history_states.specs.Cells as spelled
use Rattle.history_states.specs.declared.cells.Cell.{Cell}
use Rattle.history_states.specs.declared.cells.Cell.TheVariants as cell

-- a cell that is to be written, as it is defined
abbrev pub cell_of : Cell → spelled.Cell
cell_of (cell.Number name number) = Number name.now number
cell_of (cell.Word name word) = Word name.now word.now
cell_of (cell.Numbers name numbers) = Numbers name.now numbers.now
