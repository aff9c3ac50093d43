use Rattle.std.proofs.Common.{take}
use Rattle.std.specs.Io.KnownBytes.{Appends}
use Rattle.std.specs.List.{flat_map}
use Rattle.repair_picture.specs.Shapes.{shape_text}
use Rattle.repair_picture.proofs.shapes.put_shapes.Given as goal

abbrev pub invariant-loop-shape : goal.invariant-loop-shape
invariant-loop-shape g l =
    Appends (g.W.Write.contents l.initial.out) (g.W.Write.contents l.out) (flat_map shape_text (take l.shape-index l.shapes))
