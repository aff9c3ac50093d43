use Rattle.std.proofs.Common.{◌≡◌, map, take}
use Rattle.ring_state.proofs.packed.Packed.new.Given as goal

abbrev pub invariant-loop-v : goal.invariant-loop-v
invariant-loop-v g l = map g.C.Cell.number l.cells.items ≡ take l.v-index l.values
