use Rattle.line_service.proofs.Lasting.{lasts_wrote, adds_wrote}
use Rattle.line_service.proofs.putting.add_notes.Goals as goal

pub returns-clause-part : goal.returns-clause-part
returns-clause-part g c = adds_wrote c.add.result (g.J.Grow.contents c.args.journal.now) (g.J.Grow.contents c.add.new.self) c.args.bytes.now c.add.ensures.added

pub returns-clause-lasts_part : goal.returns-clause-lasts_part
returns-clause-lasts_part g c = lasts_wrote c.add.result (g.J.Grow.lasting c.args.journal.now) (g.J.Grow.lasting c.add.new.self) c.args.bytes.now c.add.ensures.lasts
