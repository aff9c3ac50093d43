-- The values of the cells of a state, and how wide they are.
use Rattle.std.specs.Prelude.{◌<◌, ◌≤◌}
use Rattle.ring_model.specs.Ring.{Ring}
use Rattle.ring_state.specs.Widths.{byte_values}
use Rattle.ring_state.specs.declared.states.Cells.{Cells}
use Rattle.ring_state.specs.declared.states.Cells.TheVariants.{Narrow, Wide}

-- the ring that the cells hold
abbrev pub held : Cells → Ring
held (Narrow r) = r
held (Wide r) = r

-- a byte each where a byte can hold each value, else two
abbrev pub IsRightWidth : Cells → Type 0
IsRightWidth (Narrow r) = r.k ≤ byte_values
IsRightWidth (Wide r) = byte_values < r.k
