use Rattle.std.proofs.Common.{◌≡◌, ◌++◌}
use Rattle.repair_picture.specs.Spread.{shapes_below, bar}
use Rattle.repair_picture.proofs.spread.add_bars.Given as goal

abbrev pub invariant-loop-place : goal.invariant-loop-place
invariant-loop-place l = l.shapes.items ≡ l.initial.shapes.items ++ shapes_below (bar l.counts l.figures) l.place
