use Rattle.std.proofs.Common.{◌≡◌, take}
use Rattle.repair_picture.specs.Growth.{points}
use Rattle.repair_picture.proofs.growth.points.Given as goal

abbrev pub invariant-loop-row : goal.invariant-loop-row
invariant-loop-row l = l.points.items ≡ points l.style (take l.row-index l.rows)
