use Rattle.ring_text.specs.Report.{rings_from, farm_line}
use Rattle.wrong_commands.proofs.Reports.{rings_some}
use Rattle.wrong_commands.proofs.Written.{not_more}
use Rattle.wrong_commands.proofs.texts.report_without_its_rings.Goals as goal

pub returns : goal.returns
returns g c = record {
  wrong = λ h. not_more (g.W.Write.contents c.args.out.now) (g.W.Write.contents c.write_total.new.out) (rings_from 0 c.args.outcome.now.rings.items) (farm_line c.args.outcome.now)
      c.requires.known (rings_some 0 c.args.outcome.now.rings.items c.requires.some) c.in_ok-write_total.ensures h;
}
