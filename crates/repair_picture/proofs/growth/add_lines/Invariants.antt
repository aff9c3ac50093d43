use Rattle.std.proofs.Common.{◌≡◌, ◌+◌, ◌++◌}
use Rattle.repair_picture.specs.Spread.{shapes_below}
use Rattle.repair_picture.specs.Growth.{point_at}
use Rattle.repair_picture.specs.declared.shapes.Shape.TheVariants as shape
use Rattle.repair_picture.proofs.growth.add_lines.Given as goal

abbrev pub invariant-loop-place : goal.invariant-loop-place
invariant-loop-place l =
    l.shapes.items ≡ l.initial.shapes.items ++ shapes_below (λ i. shape.Line l.style (point_at l.points i) (point_at l.points (i + 1))) l.place
