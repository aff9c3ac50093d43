use Rattle.std.specs.Io.KnownBytes.{Appends}
use Rattle.std.specs.List.{slice_get}
use Rattle.history_picture.specs.Picture.{rectangle}
use Rattle.history_picture.specs.Stretches.{pieces}
use Rattle.history_picture.proofs.Walking.{run_to}
use Rattle.history_picture.proofs.rows.put_row.Given as goal

abbrev pub invariant-loop-i : goal.invariant-loop-i
invariant-loop-i g l = Appends (g.W.Write.contents l.initial.out) (g.W.Write.contents l.out) (pieces (λ j. run_to (rectangle l.grid.n l.grid.columns l.machine) (slice_get l.row.ended.items j)) l.i)
