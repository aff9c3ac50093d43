use Rattle.ring_text.specs.Report.{rings_from, farm_line}
use Rattle.wrong_commands.proofs.Reports.{rings_some}
use Rattle.wrong_commands.proofs.Written.{not_more}
use Rattle.wrong_commands.proofs.texts.total_with_the_rings.Goals as goal

pub returns : goal.returns
returns g c = record {
  wrong = λ h. not_more (g.W.Write.contents c.args.out.now) (g.W.Write.contents c.write_report.new.out) (rings_from 0 c.args.outcome.now.rings.items) (farm_line c.args.outcome.now)
      c.requires.known (rings_some 0 c.args.outcome.now.rings.items c.requires.some) h c.in_ok-write_report.ensures;
}
