use Rattle.std.proofs.Common.{◌≡◌, take}
use Rattle.std.specs.List.{flat_map}
use Rattle.repair_picture.specs.Growth.{curve, styles}
use Rattle.repair_picture.proofs.growth.growth_shapes.Given as goal

abbrev pub invariant-loop-place : goal.invariant-loop-place
invariant-loop-place l = l.shapes.items ≡ flat_map (curve l.rows) (take l.place styles)
