use Rattle.std.specs.Io.KnownBytes.{Appends}
use Rattle.std.specs.List.{slice_get}
use Rattle.history_picture.specs.Stretches.{pieces}
use Rattle.history_picture.specs.Walks.{row_to}
use Rattle.history_picture.proofs.rows.put_rows.Given as goal

abbrev pub invariant-loop-machine : goal.invariant-loop-machine
invariant-loop-machine g l = Appends (g.W.Write.contents l.initial.out) (g.W.Write.contents l.out) (pieces (λ i. row_to l.grid.n l.grid.columns i (slice_get l.rows i)) l.machine)
