use Rattle.std.proofs.Common.{List, ℕ, subst}
use Rattle.text_lines.specs.Writing.{Writes}
use Rattle.repair_commands.proofs.Reporting.{page_of_one, page_of_more}
use Rattle.repair_commands.proofs.pictures.put_page.Goals as goal

pub returns-then-rows-eq1 : goal.returns-then-rows-eq1
returns-then-rows-eq1 g c =
    subst (λ (x : List ℕ). Writes (g.W.Write.contents c.args.out.now) (g.W.Write.contents c.put_spread.new.out) c.put_spread.result x)
    (page_of_one c.args.rows.now c.args.shapes.now _ c.if-rows-eq1.true) c.put_spread.ensures

pub returns : goal.returns
returns g c =
    subst (λ (x : List ℕ). Writes (g.W.Write.contents c.args.out.now) (g.W.Write.contents c.put_growth.new.out) c.put_growth.result x)
    (page_of_more c.args.rows.now c.args.shapes.now c.if-rows-eq1.false) c.put_growth.ensures
