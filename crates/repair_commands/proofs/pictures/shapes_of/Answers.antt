use Rattle.std.proofs.Common.{◌≡◌, List, subst, IfOk}
use Rattle.repair_picture.specs.declared.shapes.Shape.{Shape}
use Rattle.repair_commands.proofs.Reporting.{shapes_of_one, shapes_of_more}
use Rattle.repair_commands.proofs.pictures.shapes_of.Goals as goal

pub returns-then-rows-eq1 : goal.returns-then-rows-eq1
returns-then-rows-eq1 c =
    subst (λ (x : List Shape). IfOk c.spread_shapes.result (λ shapes. shapes.items ≡ x))
    (shapes_of_one c.args.rows.now c.args.counts.now _ c.if-rows-eq1.true) c.spread_shapes.ensures

pub returns : goal.returns
returns c =
    subst (λ (x : List Shape). IfOk c.growth_shapes.result (λ shapes. shapes.items ≡ x))
    (shapes_of_more c.args.rows.now c.args.counts.now c.if-rows-eq1.false) c.growth_shapes.ensures
