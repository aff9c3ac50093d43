use Rattle.std.proofs.Common.{◌≡◌, take}
use Rattle.repair_commands.specs.Repaired.{of_passes}
use Rattle.repair_commands.proofs.pictures.of_passes.Given as goal

abbrev pub invariant-loop-row : goal.invariant-loop-row
invariant-loop-row l = l.passes.items ≡ of_passes (take l.row-index l.rows)
