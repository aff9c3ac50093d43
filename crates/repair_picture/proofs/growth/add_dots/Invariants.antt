use Rattle.std.proofs.Common.{◌≡◌, ◌++◌}
use Rattle.repair_picture.specs.Spread.{shapes_below}
use Rattle.repair_picture.specs.Growth.{dot, point_at}
use Rattle.repair_picture.proofs.growth.add_dots.Given as goal

abbrev pub invariant-loop-place : goal.invariant-loop-place
invariant-loop-place l = l.shapes.items ≡ l.initial.shapes.items ++ shapes_below (λ i. dot l.style (point_at l.points i)) l.place
